-- What is printed for lines, and the words afterwards: of a part of an input, which goes on with the map there is, and of a whole one.
-- Definitions only.
use Rattle.std.specs.Prelude.{◌≡◌, ℕ, ◌+◌, ◌*◌, ◌≤◌, Bool, cond, ◌||◌, List, [], ◌∷◌, ◌++◌, eqb, ltb, length, take, drop, Result, Ok, Err}
use Rattle.std.proofs.lemmas.List.Edits.{sets}
use Rattle.bitmap.specs.declared.refusal.Refusal.{Refusal}
use Rattle.bitmap.specs.declared.refusal.Refusal.TheVariants.{TooShort}
use Rattle.bitmap.specs.Answer.{Said, given, taken, refuse}
use Rattle.words.specs.Sizes.{words}
use Rattle.lines.specs.Split.{lines_of}
use Rattle.lines.specs.Line.{line_of}
use Rattle.lines.specs.Reply.{text, reply_to, map_after}

-- there is no map: the first line was wrong
abbrev pub closed : List ℕ → Bool
closed s = eqb (length s) 0

-- what is printed for lines, where the map's words are s (none before the first line): a wrong first line ends it
unfoldable pub shown : List ℕ → List (List ℕ) → List ℕ
shown s [] = []
shown s (l ∷ ls) = text (reply_to s (line_of l)) ++ cond (closed (map_after s (line_of l))) [] (shown (map_after s (line_of l)) ls)

-- the map's words after them
unfoldable pub map_in : List ℕ → List (List ℕ) → List ℕ
map_in s [] = s
map_in s (l ∷ ls) = cond (closed (map_after s (line_of l))) [] (map_in (map_after s (line_of l)) ls)

-- the first elements of a list made anew, and the rest kept
abbrev pub renewed : List ℕ → List ℕ → List ℕ
renewed new old = new ++ drop (length new) old

-- what one line makes of the words, whose first n are the map, and of the output, of which `at` bytes are printed
pub record Stepped (line store output : List ℕ) (n at : ℕ) (store' output' : List ℕ) (n' at' : ℕ) : Type 0 where
  pub mapped : store' ≡ renewed (map_after (take n store) (line_of line)) store
  pub count : n' ≡ length (map_after (take n store) (line_of line))
  pub more : n ≤ n'
  pub printed-on : output' ≡ sets output at (text (reply_to (take n store) (line_of line)))
  pub next : at' ≡ at + length (text (reply_to (take n store) (line_of line)))

-- what all its lines make of them
pub record Ended (input store : List ℕ) (n : ℕ) (output store' output' : List ℕ) (n' at : ℕ) : Type 0 where
  pub counted : at ≡ length (shown (take n store) (lines_of input))
  pub within : at ≤ length output
  pub mapped : n' ≡ length (map_in (take n store) (lines_of input))
  pub stored : store' ≡ renewed (map_in (take n store) (lines_of input)) store
  pub all_shown : output' ≡ sets output 0 (shown (take n store) (lines_of input))

-- the words of the largest map that a line opens
abbrev pub most_words : ℕ
most_words = words 3

-- ---- a part of an input, where the first n of the words are the map's so far: none before the first line

-- what is printed for it, and the map's words after it
abbrev pub printed_on : List ℕ → List ℕ → ℕ → List ℕ
printed_on input store n = shown (take n store) (lines_of input)

abbrev pub map_on : List ℕ → List ℕ → ℕ → List ℕ
map_on input store n = map_in (take n store) (lines_of input)

-- the words are fewer than the largest size needs or than the map has, or the output has fewer than 6 bytes for each byte
abbrev pub short_on : List ℕ → List ℕ → ℕ → List ℕ → Bool
short_on input store n output = ltb (length store) most_words || (ltb (length store) n || ltb (length output) (6 * length input))

-- what a call answers: how many bytes it printed and how many words the map has then, or a refusal
abbrev pub Went : Type 0
Went = Result (ℕ × ℕ) Refusal

-- what this one answers, or refusal 9
unfoldable pub went_on : List ℕ → List ℕ → ℕ → List ℕ → Went
went_on input store n output =
    cond (short_on input store n output) (Err TooShort) (Ok (length (printed_on input store n), length (map_on input store n)))

-- the words and the output afterwards
unfoldable pub words_on : List ℕ → List ℕ → ℕ → List ℕ → List ℕ
words_on input store n output = cond (short_on input store n output) store (renewed (map_on input store n) store)

unfoldable pub output_on : List ℕ → List ℕ → ℕ → List ℕ → List ℕ
output_on input store n output = cond (short_on input store n output) output (renewed (printed_on input store n) output)

-- ---- parts of an input, one after the other

-- the input that they make up
unfoldable pub joined : List (List ℕ) → List ℕ
joined [] = []
joined (p ∷ ps) = p ++ joined ps

-- each of them but the last ends with a line end
unfoldable pub Parts : List (List ℕ) → Type 0
Parts [] = Unit
Parts (p ∷ []) = Unit
Parts (p ∷ q ∷ ps) = ((a : List ℕ) × (p ≡ a ++ (10 ∷ []))) × Parts (q ∷ ps)

-- what calls of `go_on` print for them, each on the words and the map that the one before it left, until a wrong first line ends it
unfoldable pub gone_on : List ℕ → ℕ → List (List ℕ) → List ℕ
gone_on store n [] = []
gone_on store n (p ∷ ps) =
    printed_on p store n ++ cond (closed (map_on p store n)) [] (gone_on (renewed (map_on p store n) store) (length (map_on p store n)) ps)

-- ---- a whole input

-- the bytes that are read
abbrev pub cut : List ℕ → List ℕ
cut input = take 65536 input

-- what is printed for it
abbrev pub printed : List ℕ → List ℕ
printed input = shown [] (lines_of (cut input))

-- what a call says: how many bytes it printed, or a refusal's number
abbrev pub says : Result ℕ Refusal → Said
says = taken

unfoldable pub lines_says : List ℕ → List ℕ → List ℕ → Said
lines_says input store output = refuse 9 (short_on (cut input) store 0 output) (given (length (printed input)))

-- the words and the output afterwards
abbrev pub words_after : List ℕ → List ℕ → List ℕ → List ℕ
words_after input store output = words_on (cut input) store 0 output

abbrev pub output_after : List ℕ → List ℕ → List ℕ → List ℕ
output_after input store output = output_on (cut input) store 0 output
