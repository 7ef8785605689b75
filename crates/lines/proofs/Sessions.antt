-- The laws of a session: what is left of it, with the words and the output as they are, is the whole of it. Assumes nothing.
use mathlib.Core.Path.{◌≡◌, refl, sym, ap, ap₂, subst, ◌∙◌}
use mathlib.Core.List.{List, [], ◌∷◌, ◌++◌, append-nil}
use Prim.Native.Nat.{ℕ, ◌+◌, ◌-◌, ◌*◌, ◌≤◌, ◌<◌}
use native.Mathlib.Nat.{zero-add}
use native.Mathlib.Omega.{arith}
use borrow.Author.Tests.{eq-eqb, ne_eqb}
use lib.ListN.{length, take, drop, length-append, take-append-drop}
use lib.Seq.{sets, take_at, drop_at, drop-drop, length-take-le}
use Rattle.std.proofs.Common.{Option, Some, None, Bor, option_map, unwrap_or}
use Rattle.lines.specs.Split.{before, behind, lines_of}
use Rattle.lines.specs.Line.{line_of}
use Rattle.lines.specs.Reply.{text, reply_to, map_after}
use Rattle.lines.specs.Session.{renewed, Stepped, Ended, shown, map_in}
use Rattle.lines.proofs.Splits.{lines-nil, lines-cut, cut-length}
use Rattle.lines.proofs.Puts.{put-then}
use Rattle.lines.proofs.Replies.{text-room}

-- the session where `rest` of the input is left, the map has n words and `at` bytes are printed; it had n₀ words at the start
pub record Upto (input store₀ : List ℕ) (n₀ : ℕ) (output₀ store output rest : List ℕ) (n at : ℕ) : Type 0 where
  rest-shown : sets output at (shown (take n store) (lines_of rest)) ≡ sets output₀ 0 (shown (take n₀ store₀) (lines_of input))
  rest-count : at + length (shown (take n store) (lines_of rest)) ≡ length (shown (take n₀ store₀) (lines_of input))
  rest-map : map_in (take n store) (lines_of rest) ≡ map_in (take n₀ store₀) (lines_of input)
  pub kept : drop n store ≡ drop n store₀
  pub sized : length store ≡ length store₀
  pub room : length output ≡ length output₀
  pub fits : n ≤ length store
  pub paid : at + 6 * length rest ≤ 6 * length input

pub start : (input store : List ℕ) (n : ℕ) (output : List ℕ) → n ≤ length store → Upto input store n output store output input n 0
start input store n output h = record {
  rest-shown = refl;
  rest-count = zero-add (length (shown (take n store) (lines_of input)));
  rest-map = refl;
  kept = refl;
  sized = refl;
  room = refl;
  fits = h;
  paid = omega arith;
}

-- ---- one line and the rest

shown-on : (s l : List ℕ) (ls : List (List ℕ)) → (length (map_after s (line_of l)) ≡ 0 → ⊥)
    → shown s (l ∷ ls) ≡ text (reply_to s (line_of l)) ++ shown (map_after s (line_of l)) ls
unfolding shown
shown-on s l ls h = rw (ne_eqb (length (map_after s (line_of l))) 0 h)

shown-off : (s l : List ℕ) (ls : List (List ℕ)) → length (map_after s (line_of l)) ≡ 0 → shown s (l ∷ ls) ≡ text (reply_to s (line_of l))
unfolding shown
shown-off s l ls h = rw (eq-eqb (length (map_after s (line_of l))) 0 h, append-nil)

map-on : (s l : List ℕ) (ls : List (List ℕ)) → (length (map_after s (line_of l)) ≡ 0 → ⊥) → map_in s (l ∷ ls) ≡ map_in (map_after s (line_of l)) ls
unfolding map_in
map-on s l ls h = rw (ne_eqb (length (map_after s (line_of l))) 0 h)

map-off : (s l : List ℕ) (ls : List (List ℕ)) → length (map_after s (line_of l)) ≡ 0 → map_in s (l ∷ ls) ≡ []
unfolding map_in
map-off s l ls h = rw (eq-eqb (length (map_after s (line_of l))) 0 h)

none : (s : List ℕ) → length s ≡ 0 → s ≡ []
none [] e = refl
none (x ∷ s) e = absurd (omega arith)

-- what is kept from n on is kept from m on
later : (x y : List ℕ) (n m : ℕ) → n ≤ m → drop n x ≡ drop n y → drop m x ≡ drop m y
later x y n m h e =
    let k : n + (m - n) ≡ m = omega arith in
    ap (λ (j : ℕ). drop j x) (sym k) ∙ sym (drop-drop (m - n) n x) ∙ ap (drop (m - n)) e ∙ drop-drop (m - n) n y ∙ ap (λ (j : ℕ). drop j y) k

-- what is left of the input is the text behind its first line, where there is one
pub left-is : (o : Option (Bor (List ℕ))) (none : Bor (List ℕ)) {b : Option (List ℕ)} → none.now ≡ [] → option_map (λ t. t.now) o ≡ b
    → (unwrap_or o none).now ≡ unwrap_or b []
left-is None none e h = e ∙ ap (λ (b : Option (List ℕ)). unwrap_or b []) h
left-is (Some t) none e h = ap (λ (b : Option (List ℕ)). unwrap_or b []) h

module _ {input store₀ : List ℕ} {n₀ : ℕ} {output₀ store output rest : List ℕ} {n at : ℕ} (u : Upto input store₀ n₀ output₀ store output rest n at)
    {line : List ℕ} (first : line ≡ before 10 rest) (l : 0 < length rest) where
  -- what is behind the line
  abbrev after : List ℕ
  after = unwrap_or (behind 10 rest) []

  split : lines_of rest ≡ line ∷ lines_of after
  split = lines-cut rest l ∙ ap (λ (p : List ℕ). p ∷ lines_of after) (sym first)

  -- its answer is paid for by its bytes, and has room
  line-paid : at + length (text (reply_to (take n store) (line_of line))) + 6 * length after ≤ 6 * length input
  line-paid = omega (arith, text-room (take n store) line, cut-length 10 rest l, ap length first, u.paid)

  pub line-room : at + length (text (reply_to (take n store) (line_of line))) ≤ 6 * length input
  line-room = omega (arith, line-paid)

  pub less : length after < length rest
  less = omega (arith, cut-length 10 rest l)

  module _ {store' output' : List ℕ} {n' at' : ℕ} (t : Stepped line store output n at store' output' n' at')
      (sized' : length store' ≡ length store) (room' : length output' ≡ length output) where
    abbrev new : List ℕ
    new = map_after (take n store) (line_of line)

    abbrev said : List ℕ
    said = text (reply_to (take n store) (line_of line))

    -- there is a map: the session goes on
    module _ (some : n' ≡ 0 → ⊥) where
      opened : length new ≡ 0 → ⊥
      opened z = some (t.count ∙ z)

      is-new : take n' store' ≡ new
      is-new = ap (take n') t.mapped ∙ take_at new (drop (length new) store) n' (sym t.count)

      shown-rest : shown (take n store) (lines_of rest) ≡ said ++ shown (take n' store') (lines_of after)
      shown-rest =
          ap (shown (take n store)) split
          ∙ shown-on (take n store) line (lines_of after) opened
          ∙ ap (λ (s : List ℕ). said ++ shown s (lines_of after)) (sym is-new)

      map-rest : map_in (take n store) (lines_of rest) ≡ map_in (take n' store') (lines_of after)
      map-rest =
          ap (map_in (take n store)) split
          ∙ map-on (take n store) line (lines_of after) opened
          ∙ ap (λ (s : List ℕ). map_in s (lines_of after)) (sym is-new)

      kept-on : drop n' store' ≡ drop n' store₀
      kept-on =
          ap (drop n') t.mapped
          ∙ drop_at new (drop (length new) store) n' (sym t.count)
          ∙ ap (λ (k : ℕ). drop k store) (sym t.count)
          ∙ later store store₀ n n' t.more u.kept

      on-after : Upto input store₀ n₀ output₀ store' output' after n' at'
      on-after = record {
        rest-shown = put-then output said (shown (take n' store') (lines_of after)) at t.printed-on t.next refl
            ∙ sym (ap (sets output at) shown-rest) ∙ u.rest-shown;
        rest-count = omega (arith, ap length shown-rest, length-append said (shown (take n' store') (lines_of after)), u.rest-count, t.next);
        rest-map = sym map-rest ∙ u.rest-map;
        kept = kept-on;
        sized = sized' ∙ u.sized;
        room = room' ∙ u.room;
        fits = omega (arith, ap length t.mapped, length-append new (drop (length new) store), t.count);
        paid = omega (arith, line-paid, t.next);
      }

      pub on : {rest' : List ℕ} → rest' ≡ after → Upto input store₀ n₀ output₀ store' output' rest' n' at'
      on e = subst (λ (x : List ℕ). Upto input store₀ n₀ output₀ store' output' x n' at') (sym e) on-after

    -- there is none: the first line was wrong, and the session ends
    module _ (no : n' ≡ 0) where
      closed : length new ≡ 0
      closed = sym t.count ∙ no

      same-store : store ≡ store₀
      same-store = later store store₀ n 0 (omega (arith, t.more)) u.kept

      pub off : 6 * length input ≤ length output₀ → Ended input store₀ n₀ output₀ store' output' n' at'
      off room₀ =
          let shows : shown (take n store) (lines_of rest) ≡ said = ap (shown (take n store)) split ∙ shown-off (take n store) line (lines_of after) closed in
          let maps : map_in (take n₀ store₀) (lines_of input) ≡ new = sym u.rest-map ∙ ap (map_in (take n store)) split ∙ map-off (take n store) line (lines_of after) closed ∙ sym (none new closed) in
          record {
            counted = t.next ∙ ap (λ (x : List ℕ). at + length x) (sym shows) ∙ u.rest-count;
            within = omega (arith, line-room, t.next);
            mapped = no ∙ sym (ap length maps ∙ closed);
            stored = t.mapped ∙ ap₂ renewed (sym maps) same-store;
            all_shown = t.printed-on ∙ ap (sets output at) (sym shows) ∙ u.rest-shown;
          }

-- no byte is left
pub finish : {input store₀ : List ℕ} {n₀ : ℕ} {output₀ store output rest : List ℕ} {n at : ℕ} → Upto input store₀ n₀ output₀ store output rest n at
    → 6 * length input ≤ length output₀ → length rest ≡ 0 → Ended input store₀ n₀ output₀ store output n at
unfolding shown map_in
finish {input} {store₀} {n₀} {output₀} {store} {output} {rest} {n} {at} u room₀ l =
    let end : lines_of rest ≡ [] = ap lines_of (none rest l) ∙ lines-nil in
    let maps : map_in (take n₀ store₀) (lines_of input) ≡ take n store = sym u.rest-map ∙ ap (map_in (take n store)) end in
    let size : length (take n store) ≡ n = length-take-le n store u.fits in
    record {
      counted = omega (arith, u.rest-count, ap (λ (ls : List (List ℕ)). length (shown (take n store) ls)) end);
      within = omega (arith, u.paid, u.room);
      mapped = sym (ap length maps ∙ size);
      stored = sym (take-append-drop n store) ∙ ap (λ (x : List ℕ). take n store ++ x) (u.kept ∙ ap (λ (k : ℕ). drop k store₀) (sym size)) ∙ ap (λ (m : List ℕ). renewed m store₀) (sym maps);
      all_shown = ap (sets output at) (sym (ap (shown (take n store)) end)) ∙ u.rest-shown;
    }
