-- What a single change leaves alone, by the levels of the words on its way. Definitions only.
use Rattle.std.specs.Prelude.{ℕ, ◌≤◌, ◌≡◌, ◌≢◌, List, get_or}
use Rattle.words.specs.declared.turn.Turn.TheVariants.{Stayed}
use Rattle.words.specs.Turn.{turn}
use Rattle.words.specs.Place.{on_way}

-- between the words s and t of a map of level k the word of level j on the way to position p went neither way
abbrev pub NeitherWay : ℕ → ℕ → ℕ → List ℕ → List ℕ → Type 0
NeitherWay j k p s t = turn (get_or s (on_way j k p) 0) (get_or t (on_way j k p) 0) ≡ Stayed

-- no word differs but those of the levels 0 to j on that way
abbrev pub SameAbove : ℕ → ℕ → ℕ → List ℕ → List ℕ → Type 0
SameAbove j k p s t = (i : ℕ) → ((m : ℕ) → m ≤ j → i ≢ on_way m k p) → get_or t i 0 ≡ get_or s i 0
