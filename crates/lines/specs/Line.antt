-- A line read: the number of its command and its arguments. Definitions only.
use Rattle.std.specs.Prelude.{ℕ, zero, suc, cond, not, ◌&&◌, List, [], ◌∷◌, eqb, bytes_eq}
use Rattle.lines.specs.declared.read.Line.{Line}
use Rattle.lines.specs.Text.{size1, size2, size3, size4, take_text, run_text, runat_text, free_text, freerun_text, freerunold_text, insert_text, remove_text, next_text, test_text, empty_text}
use Rattle.lines.specs.Split.{pieces}
use Rattle.lines.specs.Number.{none, number_of}

-- `size 1` to `size 4` are 1 to 4; any other line 0
unfoldable pub size_of : List ℕ → ℕ
size_of s =
    cond (bytes_eq s size1) 1
    (cond (bytes_eq s size2) 2
    (cond (bytes_eq s size3) 3
    (cond (bytes_eq s size4) 4 0)))

-- the commands that no number follows: take, empty
unfoldable pub alone : List ℕ → ℕ
alone s = cond (bytes_eq s take_text) 5 (cond (bytes_eq s empty_text) 15 0)

-- those that one number follows: free, next, test
unfoldable pub with_one : List ℕ → ℕ
with_one s =
    cond (bytes_eq s free_text) 8
    (cond (bytes_eq s next_text) 13 (cond (bytes_eq s test_text) 14 0))

-- those that two numbers follow: run, freerun, freerunold, insert, remove
unfoldable pub with_two : List ℕ → ℕ
with_two s =
    cond (bytes_eq s run_text) 6
    (cond (bytes_eq s freerun_text) 9
    (cond (bytes_eq s freerunold_text) 10
    (cond (bytes_eq s insert_text) 11
    (cond (bytes_eq s remove_text) 12 0))))

-- the one that three numbers follow: runat
unfoldable pub with_three : List ℕ → ℕ
with_three s = cond (bytes_eq s runat_text) 7 0

-- the number of a command by its name and by how many numbers follow: with none, a size or a command
unfoldable pub code_of : List ℕ → ℕ → ℕ
code_of s zero = cond (eqb (size_of s) 0) (alone s) (size_of s)
code_of s (suc zero) = with_one s
code_of s (suc (suc zero)) = with_two s
code_of s (suc (suc (suc zero))) = with_three s
code_of s (suc (suc (suc (suc n)))) = 0

-- a line of another form
abbrev pub other : Line
other = record { code = 0; a = 0; b = 0; c = 0 }

-- a command with its numbers; a line of another form where one of them is none
unfoldable pub command : ℕ → ℕ → ℕ → ℕ → Line
command code a b c =
    cond (not (eqb a none) && (not (eqb b none) && not (eqb c none))) (record { code = code; a = a; b = b; c = c }) other

-- the command that the fields of a line say
unfoldable pub command_of : List (List ℕ) → Line
command_of [] = other
command_of (name ∷ []) = command (alone name) 0 0 0
command_of (name ∷ x ∷ []) = command (with_one name) (number_of x) 0 0
command_of (name ∷ x ∷ y ∷ []) = command (with_two name) (number_of x) (number_of y) 0
command_of (name ∷ x ∷ y ∷ z ∷ []) = command (with_three name) (number_of x) (number_of y) (number_of z)
command_of (name ∷ x ∷ y ∷ z ∷ more ∷ rest) = other

-- what a line says
unfoldable pub line_of : List ℕ → Line
line_of s = cond (eqb (size_of s) 0) (command_of (pieces 32 s)) (command (size_of s) 0 0 0)
