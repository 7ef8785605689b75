-- Words put into a map by their depth, one after the other: once all are put, the target begins with the map that they make up.
-- Assumes nothing.
use mathlib.Core.Path.{◌≡◌, refl, sym, ap, ◌∙◌}
use mathlib.Core.Logic.{◌⊎◌, inl, inr, ⊎_elim}
use mathlib.Core.List.{List}
use Prim.Native.Nat.{ℕ, ◌+◌, ◌-◌, ◌<◌, ◌≤◌}
use native.Mathlib.Decide.{dec_lt, ℕ_discrete}
use native.Mathlib.Omega.{arith}
use lib.ListN.{length, drop, set, get_or, length-set, get_or-append}
use lib.Seq.{get_or-set_same, get_or-set_other, get_or-append-add, get_or-drop, ext_get_or}
use Rattle.words.specs.Sizes.{words}
use Rattle.image.specs.Bytes.{written}
use Rattle.words.specs.Place.{count, place}
use Rattle.image.specs.Reading.{map_from}
use Rattle.image.proofs.Numbers.{length-written}
use Rattle.words.proofs.Places.{place-lt}
use Rattle.image.proofs.InDepth.{place-one, map-top, length-map, placed}

-- the words f of all depths before d, and those of depth d before j, have been put into a map of level k; the target was t
pub record Filled (f : ℕ → ℕ → ℕ) (k : ℕ) (t u : List ℕ) (d j : ℕ) : Type 0 where
  pub room : words k ≤ length t
  pub len : length u ≡ length t
  pub kept : (p : ℕ) → words k ≤ p → get_or u p 0 ≡ get_or t p 0
  pub put : (h e r : ℕ) → h + e ≡ k → r < count e → (e < d) ⊎ ((e ≡ d) × (r < j)) → get_or u (place h e r) 0 ≡ f e r

module _ {f : ℕ → ℕ → ℕ} {k : ℕ} {t : List ℕ} where
  pub fill-start : words k ≤ length t → Filled f k t t 0 0
  fill-start h = record {
    room = h;
    len = refl;
    kept = λ p l. refl;
    put = λ h e r _ _ w. ⊎_elim (λ l. absurd (omega arith)) (λ w. absurd (omega arith)) w;
  }

  -- one word more
  pub fill-turn : {u : List ℕ} {d j p v : ℕ} → Filled f k t u d j → d ≤ k → j < count d → p ≡ place (k - d) d j → v ≡ f d j
      → Filled f k t (set u p v) d (j + 1)
  fill-turn {u} {d} {j} {p} {v} h l m ep ev =
      record {
        room = h.room;
        len = length-set u p v ∙ h.len;
        kept = λ q g. get_or-set_other u p q v 0 (omega (arith, here)) ∙ h.kept q g;
        put = put;
      }
    where
      level : k - d + d ≡ k
      level = omega arith

      here : p < words k
      here = rw ep (place-lt (k - d) d k j level m)

      other : (b e r : ℕ) → b + e ≡ k → r < count e → (e < d) ⊎ ((e ≡ d) × (r < j)) → get_or (set u p v) (place b e r) 0 ≡ f e r
      other b e r es re w =
          get_or-set_other u p (place b e r) v 0 (λ x.
          let one = place-one b e (k - d) d k r j es level re m (x ∙ ep) in
          ⊎_elim (λ (y : e < d). omega (arith, one.0)) (λ (y : (e ≡ d) × (r < j)). omega (arith, one.1)) w)
          ∙ h.put b e r es re w

      put : (b e r : ℕ) → b + e ≡ k → r < count e → (e < d) ⊎ ((e ≡ d) × (r < j + 1)) → get_or (set u p v) (place b e r) 0 ≡ f e r
      put b e r es re w = ⊎_elim (λ y. other b e r es re (inl y)) (λ (y : (e ≡ d) × (r < j + 1)). elim (ℕ_discrete r j) [
        | yes q ↦ let below : b ≡ k - d = omega arith in
            rw (y.0, q, below, ← ep, ← ev) (get_or-set_same u p v 0 (omega (arith, here, h.room, h.len)))
        | no q ↦ other b e r es re (inr (y.0, omega arith))
      ]) w

  -- one depth more
  pub fill-next : {u : List ℕ} {d j : ℕ} → Filled f k t u d j → count d ≤ j → Filled f k t u (d + 1) 0
  fill-next {u} {d} {j} h all = record {
    room = h.room;
    len = h.len;
    kept = h.kept;
    put = λ b e r es re w. h.put b e r es re (⊎_elim (λ y. last e r re y) (λ (y : (e ≡ d + 1) × (r < 0)). absurd (omega arith)) w);
  }
    where
      last : (e r : ℕ) → r < count e → e < d + 1 → (e < d) ⊎ ((e ≡ d) × (r < j))
      last e r re y = elim (ℕ_discrete e d) [
        | yes q ↦ inr (q, let inside : r < count d = rw q at re in omega arith)
        | no q ↦ inl (omega arith)
      ]

  -- all depths
  pub fill-end : {u : List ℕ} {d : ℕ} → Filled f k t u d 0 → k < d → u ≡ written 0 (map_from f k 0) t
  unfolding written
  fill-end {u} {d} h all = ext_get_or 0 u (written 0 m t) (h.len ∙ sym (length-written 0 m t (omega (arith, sized, h.room)))) at
    where
      m : List ℕ
      m = map_from f k 0

      sized : length m ≡ words k
      sized = length-map f k 0

      at : (p : ℕ) → p < length u → get_or u p 0 ≡ get_or (written 0 m t) p 0
      at p l = elim (dec_lt p (words k)) [
        | yes lt ↦ let s = placed k p lt in
            ap (λ (n : ℕ). get_or u n 0) (sym s.is)
            ∙ h.put s.below s.depth s.index s.levels s.index-lt (inl (omega (arith, s.levels)))
            ∙ sym (map-top f s.below s.depth k s.index s.levels s.index-lt)
            ∙ ap (λ (n : ℕ). get_or m n 0) s.is
            ∙ sym (get_or-append m (drop (0 + length m) t) 0 p (omega (arith, sized)))
        | no ge ↦ let q = p - length m in
            let past : length m + q ≡ p = omega (arith, sized) in
            let whole : 0 + length m + q ≡ p = omega arith in
            h.kept p (omega arith)
            ∙ sym (ap (λ (n : ℕ). get_or (written 0 m t) n 0) (sym past)
            ∙ get_or-append-add m (drop (0 + length m) t) q 0
            ∙ get_or-drop (0 + length m) t q 0
            ∙ ap (λ (n : ℕ). get_or t n 0) whole)
      ]
