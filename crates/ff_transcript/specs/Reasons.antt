-- How it is written why a pair has its value. This project's own.
use Rattle.std.specs.Prelude.{ℕ, List, [], ◌∷◌, ◌++◌, codes}
use Rattle.std.specs.Fmt.{decimal}
use Rattle.std.specs.List.{flat_map}
use Rattle.ff_types.specs.declared.cites.Cite.{Cite}
use Rattle.ff_types.specs.declared.cites.Cite.TheVariants.{Transitivity, TacoTaco, TacoFace, TacoEdge, FlatFace, FlatEdge}
use Rattle.ff_log.specs.Spelling.{order_word}
use Rattle.ff_viewer.specs.declared.replies.Premise.{Premise}
use Rattle.ff_viewer.specs.declared.replies.Why.{Why}
use Rattle.ff_viewer.specs.declared.replies.Why.TheVariants as why

-- a constraint's family, an edge, and what lies there: a face or another edge
abbrev pub beside_text : List ℕ → ℕ → List ℕ → ℕ → List ℕ
beside_text name e word other = name ++ codes " " ++ decimal e ++ codes " " ++ word ++ codes " " ++ decimal other

-- what a cite is called and the numbers that it names, without its places
abbrev pub cite_text : Cite → List ℕ
cite_text (Transitivity f g h at) = codes "transitivity " ++ decimal f ++ codes " " ++ decimal g ++ codes " " ++ decimal h
cite_text (TacoTaco e e2) = codes "taco-taco " ++ decimal e ++ codes " " ++ decimal e2
cite_text (TacoFace e face at) = beside_text (codes "taco-tortilla") e (codes "face") face
cite_text (TacoEdge e flat) = beside_text (codes "taco-tortilla") e (codes "edge") flat
cite_text (FlatFace flat face at) = beside_text (codes "tortilla-tortilla") flat (codes "face") face
cite_text (FlatEdge flat flat2) = beside_text (codes "tortilla-tortilla") flat (codes "edge") flat2

-- two faces, how the first stands to the second, and the level
abbrev pub premise_text : Premise → List ℕ
premise_text p = decimal p.f ++ codes " " ++ decimal p.g ++ codes " " ++ order_word p.value ++ codes " " ++ decimal p.level

-- the premises after the first, each behind a comma and a space
abbrev pub more_premises : List Premise → List ℕ
more_premises ps = flat_map (λ p. codes ", " ++ premise_text p) ps

-- the premises, with a comma and a space between
abbrev pub premises_text : List Premise → List ℕ
premises_text [] = []
premises_text (p ∷ ps) = premise_text p ++ more_premises ps

-- why a pair has its value
abbrev pub why_text : Why → List ℕ
why_text (why.Crease e) = codes "crease " ++ decimal e
why_text why.Pin = codes "pin"
why_text (why.Forced level cite premises) = codes "level " ++ decimal level ++ codes " by " ++ cite_text cite ++ codes " from " ++ premises_text premises
