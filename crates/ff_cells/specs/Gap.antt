-- How far one line is above another, and where places lie in x.
use Rattle.std.specs.Prelude.{ℤ, pos, ◌-ℤ◌, ◌*ℤ◌, neg_ℤ}
use Rattle.ff_whole.specs.declared.points.Pt.{Pt}
use Rattle.ff_whole.specs.Meeting.{rise}
use Rattle.ff_whole.specs.declared.lines.Line.{Line}
use Rattle.ff_whole.specs.declared.places.Place.{Place}

-- how far l is above k at the x of a place, times both b and w
abbrev pub gap : Line → Line → Place → ℤ
gap k l at = rise l at *ℤ k.b -ℤ rise k at *ℤ l.b

-- how far q is to the right of p, times both w
abbrev pub run : Place → Place → ℤ
run p q = q.x *ℤ p.w -ℤ p.x *ℤ q.w

-- a point as a place
abbrev pub spot : Pt → Place
spot p = record { x = p.x; y = p.y; w = pos 1 }

-- the same line with its sides swapped
abbrev pub opposite : Line → Line
opposite l = record { a = neg_ℤ l.a; b = neg_ℤ l.b; c = neg_ℤ l.c }
