-- What a line is answered, and the bytes printed. Definitions only.
use Rattle.std.specs.Prelude.{ℕ, cond, List, [], ◌∷◌, ◌++◌, eqb, leb, length, get_or, replicate, Result, Ok, Err, Some, None}
use Rattle.bitmap.specs.declared.refusal.Refusal.{Refusal}
use Rattle.bitmap.specs.Answer.{Said, given, refused, number}
use Rattle.words.specs.Sizes.{words, cap}
use Rattle.bitmap.specs.Calls.{answer, after, alloc_says, alloc_after, run_says, run_after, next_says, give_says, give_after, give_run_says, give_run_after, give_run_old_after, range_says, insert_after, remove_after, empty_says, test_says}
use Rattle.lines.specs.declared.read.Line.{Line}
use Rattle.lines.specs.declared.table.Reply as table
use Rattle.lines.specs.declared.table.Reply.TheVariants as T
use Rattle.lines.specs.Text.{map_text, at_text, ok_text, yes_text, not_text, no_text, line_end}
use Rattle.lines.specs.Number.{decimal}

-- what a line is answered: a map of so many positions and words, a position, done, yes, not, or a refusal's number
pub data Reply : Type 0 where
  Map : ℕ → ℕ → Reply
  At : ℕ → Reply
  Done : Reply
  Yes : Reply
  Not : Reply
  No : ℕ → Reply

-- the same of what the table answers
abbrev pub replied : Result table.Reply Refusal → Reply
replied (Ok (T.Map n w)) = Map n w
replied (Ok (T.At p)) = At p
replied (Ok T.Done) = Done
replied (Ok T.Yes) = Yes
replied (Ok T.Not) = Not
replied (Err r) = No (number r)

-- what is printed of a reply
unfoldable pub text : Reply → List ℕ
text (Map n w) = map_text ++ (decimal n ++ line_end)
text (At p) = at_text ++ (decimal p ++ line_end)
text Done = ok_text
text Yes = yes_text
text Not = not_text
text (No n) = no_text ++ (decimal n ++ line_end)

-- the reply of a take or a look-up, of another change, and of a test
abbrev pub place : Said → Reply
place (given p) = At p
place (refused n) = No n

abbrev pub done : Said → Reply
done (given v) = Done
done (refused n) = No n

abbrev pub yes : Said → Reply
yes (given v) = cond (eqb v 0) Not Yes
yes (refused n) = No n

-- the number in a reply; 0 where it has none
abbrev pub number_in : Reply → ℕ
number_in (Map n w) = n
number_in (At p) = p
number_in Done = 0
number_in Yes = 0
number_in Not = 0
number_in (No n) = n

-- the table of cases, 0 to 15: a line of another form, the four sizes, and the eleven commands on a map s
unfoldable pub replies : ℕ → ℕ → ℕ → List ℕ → List Reply
replies a b c s =
    No 10
    ∷ Map (cap 0) (words 0)
    ∷ Map (cap 1) (words 1)
    ∷ Map (cap 2) (words 2)
    ∷ Map (cap 3) (words 3)
    ∷ place (answer alloc_says s)
    ∷ place (answer (run_says None a b) s)
    ∷ place (answer (run_says (Some a) b c) s)
    ∷ done (answer (give_says a) s)
    ∷ done (answer (give_run_says a b) s)
    ∷ done (answer (give_run_says a b) s)
    ∷ done (answer (range_says a b) s)
    ∷ done (answer (range_says a b) s)
    ∷ place (answer (next_says a) s)
    ∷ yes (answer (test_says a) s)
    ∷ yes (answer empty_says s)
    ∷ []

-- the map's words after each of them, where a size leaves what there is
unfoldable pub afters : ℕ → ℕ → ℕ → List ℕ → List (List ℕ)
afters a b c s =
    s
    ∷ s
    ∷ s
    ∷ s
    ∷ s
    ∷ after alloc_after s
    ∷ after (run_after None a b) s
    ∷ after (run_after (Some a) b c) s
    ∷ after (give_after a) s
    ∷ after (give_run_after a b) s
    ∷ after (give_run_old_after a b) s
    ∷ after (insert_after a b) s
    ∷ after (remove_after a b) s
    ∷ s
    ∷ s
    ∷ s
    ∷ []

-- the number in the table where the map has n words: a size opens a map where there is none, any other command needs one
unfoldable pub allowed : ℕ → ℕ → ℕ
allowed n code = cond (eqb n 0) (cond (leb code 4) code 0) (cond (leb code 4) 0 code)

-- the reply to a line, where the map's words are s (none before the first line)
unfoldable pub reply_to : List ℕ → Line → Reply
reply_to s l = get_or (replies l.a l.b l.c s) (allowed (length s) l.code) (No 10)

-- a map is opened all taken
abbrev pub opened : Reply → List ℕ → List ℕ
opened (Map n w) s = replicate w 0
opened (At p) s = s
opened Done s = s
opened Yes s = s
opened Not s = s
opened (No n) s = s

-- the map's words after a line
unfoldable pub map_after : List ℕ → Line → List ℕ
map_after s l = opened (reply_to s l) (get_or (afters l.a l.b l.c s) (allowed (length s) l.code) s)
