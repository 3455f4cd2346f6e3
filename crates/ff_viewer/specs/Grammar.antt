-- Which texts are the commands of a viewer. This project's own.
use Rattle.std.specs.Prelude.{◌==◌, ◌&&◌, ℕ, Bool, List, [], ◌∷◌, length, Option, Some, None, codes, if◌then◌else◌, nat_lt, nat_le, option_map, option_and_then}
use Rattle.std.specs.List.{list_all, slice_split}
use Rattle.std.specs.Char.{is_ascii, is_ascii_digit}
use Rattle.std.specs.Str.{bytes_eq}
use Rattle.std.specs.Str.Parse.{digits_value}
use Rattle.ff_tables.specs.declared.orders.Order.{Order}
use Rattle.ff_tables.specs.declared.orders.Order.TheVariants.{Below, Above}
use Rattle.ff_viewer.specs.declared.commands.Command.{Command}
use Rattle.ff_viewer.specs.declared.commands.Command.TheVariants as command
use Rattle.ff_viewer.specs.declared.commands.Question.{Question}
use Rattle.ff_viewer.specs.declared.commands.Question.TheVariants as ask

-- one to nine decimal digits
abbrev pub is_number : List ℕ → Bool
is_number w = nat_lt 0 (length w) && (nat_le (length w) 9 && list_all is_ascii_digit w)

-- their value; zeros may stand in front
abbrev pub number : List ℕ → Option ℕ
number w = if is_number w then Some (digits_value 10 w) else None

-- `above` or `below`
abbrev pub order : List ℕ → Option Order
order w = if bytes_eq w (codes "above") then Some Above else (if bytes_eq w (codes "below") then Some Below else None)

-- two numbers
abbrev pub two : List (List ℕ) → Option (ℕ × ℕ)
two (f ∷ g ∷ []) = option_and_then (λ a. option_map (λ b. (a, b)) (number g)) (number f)
two _ = None

-- what two numbers are named for
abbrev pub with_two : (ℕ → ℕ → Command) → List (List ℕ) → Option Command
with_two make ws = option_map (λ p. make p.0 p.1) (two ws)

-- two faces, and how the first stands to the second
abbrev pub pin_by : List (List ℕ) → Option Command
pin_by (f ∷ g ∷ v ∷ []) =
    option_and_then (λ a. option_and_then (λ b. option_map (λ o. command.Pin a b o) (order v)) (number g)) (number f)
pin_by _ = None

-- a question without further words
abbrev pub alone : Question → List (List ℕ) → Option Command
alone question [] = Some (command.Ask question)
alone question (w ∷ ws) = None

-- a number for each word
abbrev pub numbers : List (List ℕ) → Option (List ℕ)
numbers [] = Some []
numbers (w ∷ ws) = option_and_then (λ n. option_map (λ ns. n ∷ ns) (numbers ws)) (number w)

-- any numbers
abbrev pub stack_by : List (List ℕ) → Option Command
stack_by ws = option_map (λ ns. command.Ask (ask.Stack ns)) (numbers ws)

-- a command but for `stack`, by its first word and the others
abbrev pub plain_by : List ℕ → List (List ℕ) → Option Command
plain_by w ws =
    if bytes_eq w (codes "pin") then pin_by ws
    else (if bytes_eq w (codes "unpin") then with_two (λ f g. command.Unpin f g) ws
    else (if bytes_eq w (codes "board") then alone ask.Board ws
    else (if bytes_eq w (codes "peek") then alone ask.Peek ws
    else (if bytes_eq w (codes "parts") then alone ask.Parts ws
    else (if bytes_eq w (codes "order") then with_two (λ f g. command.Ask (ask.Order f g)) ws
    else (if bytes_eq w (codes "page") then with_two (λ p k. command.Ask (ask.Page p k)) ws
    else (if bytes_eq w (codes "why") then with_two (λ f g. command.Ask (ask.Why f g)) ws else None)))))))

-- any command, by its first word and the others
abbrev pub command_words : List ℕ → List (List ℕ) → Option Command
command_words w ws = if bytes_eq w (codes "stack") then stack_by ws else plain_by w ws

-- the command that the words are
abbrev pub command_by : List (List ℕ) → Option Command
command_by [] = None
command_by (w ∷ ws) = command_words w ws

-- the words of a text, which stand apart by single spaces
abbrev pub words_in : List ℕ → List (List ℕ)
words_in text = slice_split (λ b. b == 32) text

-- the command that the text is, None where it is none: a text is ASCII
abbrev pub command_of : List ℕ → Option Command
command_of text = if list_all is_ascii text then command_by (words_in text) else None
