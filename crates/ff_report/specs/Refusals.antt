-- The line of a refusal: its number, its name, and where it comes. This project's own.
use Rattle.std.specs.Prelude.{ℕ, List, [], ◌++◌, codes}
use Rattle.std.specs.Fmt.{decimal}
use Rattle.ff_types.specs.declared.refusals.Refusal.{Refusal}
use Rattle.ff_types.specs.declared.refusals.Refusal.TheVariants.{TooLong, NotJson, BadKey, BadVertex, FarVertex, BadEdge, BadMark, SamePoint, Crossing, Loose, Rim, Pinch, Reflex, Enclosed, Apart, Parity, Inconsistent, Oversized, TooMany, BadScript, BadFaces, BadOrder, BadChoice, BadNear, BadLine, OffGrid, Overlap}
use Rattle.ff_types.specs.declared.refusals.Key.{Key}
use Rattle.ff_types.specs.declared.refusals.Key.TheVariants.{Fold, VerticesCoords, EdgesVertices, EdgesAssignment, Pins, Log, Viewers, FacesVertices, FaceOrders, Choice, Near, Lines}
use Rattle.ff_types.specs.declared.refusals.What.{What}
use Rattle.ff_types.specs.declared.refusals.What.TheVariants as what
use Rattle.ff_types.specs.declared.refusals.What.TheVariants.{Vertices, Edges, Commands, Faces, Cells, Entries, Pairs, Constraints}

-- the word for a key
abbrev pub key_name : Key → List ℕ
key_name Fold = codes "fold"
key_name VerticesCoords = codes "vertices_coords"
key_name EdgesVertices = codes "edges_vertices"
key_name EdgesAssignment = codes "edges_assignment"
key_name Pins = codes "pins"
key_name Log = codes "log"
key_name Viewers = codes "viewers"
key_name FacesVertices = codes "faces_vertices"
key_name FaceOrders = codes "faceOrders"
key_name Choice = codes "choice"
key_name Near = codes "near"
key_name Lines = codes "lines"

-- the word for what there is too much of
abbrev pub what_name : What → List ℕ
what_name Vertices = codes "vertices"
what_name Edges = codes "edges"
what_name what.Pins = codes "pins"
what_name what.Viewers = codes "viewers"
what_name Commands = codes "commands"
what_name Faces = codes "faces"
what_name Cells = codes "cells"
what_name Entries = codes "entries"
what_name Pairs = codes "pairs"
what_name Constraints = codes "constraints"
what_name what.Lines = codes "lines"

-- its number and its name
abbrev pub refusal_name : Refusal → List ℕ
refusal_name TooLong = codes "1 too long"
refusal_name NotJson = codes "2 not json"
refusal_name (BadKey k) = codes "3 bad key"
refusal_name (BadVertex v) = codes "4 bad vertex"
refusal_name (FarVertex v) = codes "5 far vertex"
refusal_name (BadEdge e) = codes "6 bad edge"
refusal_name (BadMark e) = codes "7 bad mark"
refusal_name (SamePoint v) = codes "8 same point"
refusal_name (Crossing e k) = codes "9 crossing"
refusal_name (Loose v) = codes "10 loose"
refusal_name (Rim e) = codes "11 rim"
refusal_name (Pinch v) = codes "12 pinch"
refusal_name (Reflex v) = codes "13 reflex"
refusal_name (Enclosed v) = codes "14 enclosed"
refusal_name (Apart face) = codes "15 apart"
refusal_name (Parity e) = codes "16 parity"
refusal_name (Inconsistent v) = codes "17 inconsistent"
refusal_name (Oversized v) = codes "18 oversized"
refusal_name (TooMany w n) = codes "19 too many"
refusal_name (BadScript viewer line) = codes "20 bad script"
refusal_name (BadFaces item) = codes "21 bad faces"
refusal_name (BadOrder item) = codes "22 bad order"
refusal_name (BadChoice part) = codes "23 bad choice"
refusal_name (BadNear item) = codes "24 bad near"
refusal_name (BadLine line) = codes "25 bad line"
refusal_name (OffGrid line line2) = codes "26 off grid"
refusal_name (Overlap line line2) = codes "27 overlap"

-- the text after a space
abbrev pub spaced : List ℕ → List ℕ
spaced text = codes " " ++ text

-- where it comes
abbrev pub refusal_place : Refusal → List ℕ
refusal_place TooLong = []
refusal_place NotJson = []
refusal_place (BadKey key) = spaced (key_name key)
refusal_place (TooMany w limit) = spaced (what_name w) ++ spaced (decimal limit)
refusal_place (Crossing e e2) = spaced (decimal e) ++ spaced (decimal e2)
refusal_place (BadScript viewer line) = spaced (decimal viewer) ++ spaced (decimal line)
refusal_place (OffGrid line line2) = spaced (decimal line) ++ spaced (decimal line2)
refusal_place (Overlap line line2) = spaced (decimal line) ++ spaced (decimal line2)
refusal_place (BadVertex v) = spaced (decimal v)
refusal_place (FarVertex v) = spaced (decimal v)
refusal_place (BadEdge e) = spaced (decimal e)
refusal_place (BadMark e) = spaced (decimal e)
refusal_place (SamePoint v) = spaced (decimal v)
refusal_place (Loose v) = spaced (decimal v)
refusal_place (Rim e) = spaced (decimal e)
refusal_place (Pinch v) = spaced (decimal v)
refusal_place (Reflex v) = spaced (decimal v)
refusal_place (Enclosed v) = spaced (decimal v)
refusal_place (Apart face) = spaced (decimal face)
refusal_place (Parity e) = spaced (decimal e)
refusal_place (Inconsistent v) = spaced (decimal v)
refusal_place (Oversized v) = spaced (decimal v)
refusal_place (BadFaces item) = spaced (decimal item)
refusal_place (BadOrder item) = spaced (decimal item)
refusal_place (BadChoice part) = spaced (decimal part)
refusal_place (BadNear item) = spaced (decimal item)
refusal_place (BadLine line) = spaced (decimal line)

-- the line of a refusal
abbrev pub refusal_line : Refusal → List ℕ
refusal_line r = codes "refused " ++ refusal_name r ++ refusal_place r ++ codes "\n"
