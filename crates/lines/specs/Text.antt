-- The texts that are read and printed, as their bytes. Definitions only.
use Rattle.std.specs.Prelude.{ℕ, List, [], ◌∷◌}

-- ---- read: the four first lines, and the names of the eleven commands

abbrev pub size1 : List ℕ
size1 = 115 ∷ 105 ∷ 122 ∷ 101 ∷ 32 ∷ 49 ∷ []

abbrev pub size2 : List ℕ
size2 = 115 ∷ 105 ∷ 122 ∷ 101 ∷ 32 ∷ 50 ∷ []

abbrev pub size3 : List ℕ
size3 = 115 ∷ 105 ∷ 122 ∷ 101 ∷ 32 ∷ 51 ∷ []

abbrev pub size4 : List ℕ
size4 = 115 ∷ 105 ∷ 122 ∷ 101 ∷ 32 ∷ 52 ∷ []

abbrev pub take_text : List ℕ
take_text = 116 ∷ 97 ∷ 107 ∷ 101 ∷ []

abbrev pub run_text : List ℕ
run_text = 114 ∷ 117 ∷ 110 ∷ []

abbrev pub runat_text : List ℕ
runat_text = 114 ∷ 117 ∷ 110 ∷ 97 ∷ 116 ∷ []

abbrev pub free_text : List ℕ
free_text = 102 ∷ 114 ∷ 101 ∷ 101 ∷ []

abbrev pub freerun_text : List ℕ
freerun_text = 102 ∷ 114 ∷ 101 ∷ 101 ∷ 114 ∷ 117 ∷ 110 ∷ []

abbrev pub freerunold_text : List ℕ
freerunold_text = 102 ∷ 114 ∷ 101 ∷ 101 ∷ 114 ∷ 117 ∷ 110 ∷ 111 ∷ 108 ∷ 100 ∷ []

abbrev pub insert_text : List ℕ
insert_text = 105 ∷ 110 ∷ 115 ∷ 101 ∷ 114 ∷ 116 ∷ []

abbrev pub remove_text : List ℕ
remove_text = 114 ∷ 101 ∷ 109 ∷ 111 ∷ 118 ∷ 101 ∷ []

abbrev pub next_text : List ℕ
next_text = 110 ∷ 101 ∷ 120 ∷ 116 ∷ []

abbrev pub test_text : List ℕ
test_text = 116 ∷ 101 ∷ 115 ∷ 116 ∷ []

abbrev pub empty_text : List ℕ
empty_text = 101 ∷ 109 ∷ 112 ∷ 116 ∷ 121 ∷ []

-- ---- printed: each with the space that a number follows, or with the line end

abbrev pub map_text : List ℕ
map_text = 109 ∷ 97 ∷ 112 ∷ 32 ∷ []

abbrev pub at_text : List ℕ
at_text = 97 ∷ 116 ∷ 32 ∷ []

abbrev pub ok_text : List ℕ
ok_text = 111 ∷ 107 ∷ 10 ∷ []

abbrev pub yes_text : List ℕ
yes_text = 121 ∷ 101 ∷ 115 ∷ 10 ∷ []

abbrev pub not_text : List ℕ
not_text = 110 ∷ 111 ∷ 116 ∷ 10 ∷ []

abbrev pub no_text : List ℕ
no_text = 110 ∷ 111 ∷ 32 ∷ []

-- the line end after a number
abbrev pub line_end : List ℕ
line_end = 10 ∷ []
