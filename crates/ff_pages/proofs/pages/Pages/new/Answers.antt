use Rattle.std.proofs.Common.{refl}
use Rattle.ff_pages.proofs.Paged.{new_stands}
use Rattle.ff_pages.proofs.pages.Pages.new.Goals as goal

pub returns-clause-stands : goal.returns-clause-stands
returns-clause-stands c vars cons fit board part touching = new_stands _ refl c.new.ensures.items c.requires.budget vars cons fit board part touching
