-- When two texts are alike: the same but for their logs. A report may give any log that shows what it says, so its text
-- isn't told by the input alone; the rest of it is. This project's own.
use Rattle.std.specs.Prelude.{◌≡◌, ℕ, ◌==◌, Bool, true, false, ◌&&◌, List, [], ◌∷◌, codes, if◌then◌else◌}
use Rattle.std.specs.List.{list_any}

-- the lines of a text, each without its line feed
abbrev pub lengthen : ℕ → List (List ℕ) → List (List ℕ)
lengthen c [] = (c ∷ []) ∷ []
lengthen c (line ∷ lines) = (c ∷ line) ∷ lines

-- the lines of a text, without their ends
abbrev pub lines_in : List ℕ → List (List ℕ)
lines_in [] = []
lines_in (c ∷ text) = if c == 10 then [] ∷ lines_in text else lengthen c (lines_in text)

-- the line begins with this front
abbrev pub begins : List ℕ → List ℕ → Bool
begins [] line = true
begins (c ∷ front) [] = false
begins (c ∷ front) (d ∷ line) = (c == d) && begins front line

-- a line of a log
abbrev pub is_log : List ℕ → Bool
is_log line = begins (codes "log ") line

-- a line that is told, or a log: a block of its lines, whatever they say
pub data Piece : Type 0 where
  Line : List ℕ → Piece
  Log : Piece

-- a log line before these pieces is one log with those that follow it
abbrev pub after_log : List Piece → List Piece
after_log (Log ∷ pieces) = Log ∷ pieces
after_log pieces = Log ∷ pieces

-- the lines of a text, where those of one log make one piece
abbrev pub pieces_of : List (List ℕ) → List Piece
pieces_of [] = []
pieces_of (line ∷ lines) = if is_log line then after_log (pieces_of lines) else Line line ∷ pieces_of lines

-- The texts have the same lines, and logs at the same places; logs are related by nothing but being logs. Where neither
-- text has a log they are alike exactly where their lines are the same.
abbrev pub AreAlike : List ℕ → List ℕ → Type 0
AreAlike x y = pieces_of (lines_in x) ≡ pieces_of (lines_in y)

-- no line of the text is of a log
abbrev pub HasNoLog : List ℕ → Type 0
HasNoLog text = list_any is_log (lines_in text) ≡ false

-- The texts are alike, and where no log stands in them they are the same.
abbrev pub AreOneText : List ℕ → List ℕ → Type 0
AreOneText x y = AreAlike x y × (HasNoLog x → x ≡ y)
