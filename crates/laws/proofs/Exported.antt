-- The theorems are about the calls as C has them too: each answers what `call_says` has, as two numbers, and leaves what `call_after`
-- makes; and refusal 0 means exactly that a value is given. crates/asogeren_c states each of the export. Assumes nothing.
use mathlib.Core.Path.{◌≡◌, refl, sym, ap, ◌∙◌}
use mathlib.Core.Bool.{true≢false}
use mathlib.Core.List.{List}
use Prim.Native.Nat.{ℕ}
use Rattle.std.specs.Prelude.{Some, None}
use Rattle.bitmap.specs.Answer.{Said, given, refused}
use Rattle.bitmap.specs.Calls.{answer, after}
use Rattle.bitmap.specs.Contract.{Means}
use Rattle.image.specs.Calls.{write_says, write_after, read_says, read_after}
use Rattle.image.proofs.Theorems.{write-refusals, read-refusals}
use Rattle.asogeren.specs.declared.crossing.Answer.{Answer}
use Rattle.asogeren.specs.Crossed.{crossed}
use Rattle.laws.specs.Call as C
use Rattle.laws.specs.Call.{Call, call_says, call_after}
use Rattle.laws.specs.Does.{Crosses, Exported}
use Rattle.laws.proofs.Refused.{never-zero}
use Rattle.laws.proofs.Contracts.{after-same}
use Rattle.asogeren.specs.contracts.asogeren_alloc as alloc
use Rattle.asogeren.proofs.asogeren_alloc.Reads as alloc-reads
use Rattle.asogeren.specs.contracts.asogeren_alloc_contiguous as alloc-contiguous
use Rattle.asogeren.proofs.asogeren_alloc_contiguous.Reads as alloc-contiguous-reads
use Rattle.asogeren.specs.contracts.asogeren_alloc_contiguous_at as alloc-contiguous-at
use Rattle.asogeren.proofs.asogeren_alloc_contiguous_at.Reads as alloc-contiguous-at-reads
use Rattle.asogeren.specs.contracts.asogeren_next as next
use Rattle.asogeren.proofs.asogeren_next.Reads as next-reads
use Rattle.asogeren.specs.contracts.asogeren_dealloc as dealloc
use Rattle.asogeren.proofs.asogeren_dealloc.Reads as dealloc-reads
use Rattle.asogeren.specs.contracts.asogeren_dealloc_contiguous as dealloc-contiguous
use Rattle.asogeren.proofs.asogeren_dealloc_contiguous.Reads as dealloc-contiguous-reads
use Rattle.asogeren.specs.contracts.asogeren_dealloc_contiguous_old as dealloc-contiguous-old
use Rattle.asogeren.proofs.asogeren_dealloc_contiguous_old.Reads as dealloc-contiguous-old-reads
use Rattle.asogeren.specs.contracts.asogeren_insert as insert
use Rattle.asogeren.proofs.asogeren_insert.Reads as insert-reads
use Rattle.asogeren.specs.contracts.asogeren_remove as remove
use Rattle.asogeren.proofs.asogeren_remove.Reads as remove-reads
use Rattle.asogeren.specs.contracts.asogeren_is_empty as is-empty
use Rattle.asogeren.proofs.asogeren_is_empty.Reads as is-empty-reads
use Rattle.asogeren.specs.contracts.asogeren_test as test
use Rattle.asogeren.proofs.asogeren_test.Reads as test-reads
use Rattle.asogeren.specs.contracts.asogeren_check as check
use Rattle.asogeren.proofs.asogeren_check.Reads as check-reads
use Rattle.asogeren.specs.contracts.asogeren_image_write as image-write
use Rattle.asogeren.proofs.asogeren_image_write.Reads as image-write-reads
use Rattle.asogeren.specs.contracts.asogeren_image_read as image-read
use Rattle.asogeren.proofs.asogeren_image_read.Reads as image-read-reads

-- what is not refused with 0 crosses with refusal 0 exactly where it gives a value
crosses : (x : Said) (r : Answer) → (x ≡ refused 0 → ⊥) → r ≡ crossed x → Crosses x r
crosses x r no_zero e = record { is = e; given-exactly = (λ z. by x no_zero (sym (ap (λ (a : Answer). a.refusal) e) ∙ z), λ g. ap (λ (a : Answer). a.refusal) (e ∙ ap crossed g.1)) }
  where
    by : (x : Said) → (x ≡ refused 0 → ⊥) → (crossed x).refusal ≡ 0 → (v : ℕ) × (x ≡ given v)
    by (given v) h z = (v, refl)
    by (refused n) h z = absurd (h (ap refused z))

changes : (c : Call) (entry : List ℕ) {r : Answer} {exit : List ℕ} → (r ≡ crossed (answer (call_says c) entry)) × (exit ≡ after (call_after c) entry) → Exported c r entry exit
changes c entry p = (crosses _ _ (never-zero c entry) p.0, p.1)

looks : (c : Call) {r : Answer} {entry : List ℕ} → after (call_after c) entry ≡ after (λ k s. s) entry → r ≡ crossed (answer (call_says c) entry) → Exported c r entry entry
looks c {r} {entry} still p = (crosses _ _ (never-zero c entry) p, sym (still ∙ after-same entry))

pub alloc-exported : Means alloc.ended alloc-reads.Post (λ κs a r e. Exported C.alloc r a.0.now e.0.now)
alloc-exported κs a r e p = changes C.alloc a.0.now p

pub alloc-contiguous-exported : Means alloc-contiguous.ended alloc-contiguous-reads.Post (λ κs a r e. Exported (C.alloc_contiguous None a.1.0 a.1.1.0) r a.0.now e.0.now)
alloc-contiguous-exported κs a r e p = changes (C.alloc_contiguous None a.1.0 a.1.1.0) a.0.now p

pub alloc-contiguous-at-exported : Means alloc-contiguous-at.ended alloc-contiguous-at-reads.Post (λ κs a r e. Exported (C.alloc_contiguous (Some a.1.0) a.1.1.0 a.1.1.1.0) r a.0.now e.0.now)
alloc-contiguous-at-exported κs a r e p = changes (C.alloc_contiguous (Some a.1.0) a.1.1.0 a.1.1.1.0) a.0.now p

pub next-exported : Means next.ended next-reads.Post (λ κs a r e. Exported (C.next a.1.0) r a.0.now a.0.now)
next-exported κs a r e p = looks (C.next a.1.0) refl p

pub dealloc-exported : Means dealloc.ended dealloc-reads.Post (λ κs a r e. Exported (C.dealloc a.1.0) r a.0.now e.0.now)
dealloc-exported κs a r e p = changes (C.dealloc a.1.0) a.0.now p

pub dealloc-contiguous-exported : Means dealloc-contiguous.ended dealloc-contiguous-reads.Post (λ κs a r e. Exported (C.dealloc_contiguous a.1.0 a.1.1.0) r a.0.now e.0.now)
dealloc-contiguous-exported κs a r e p = changes (C.dealloc_contiguous a.1.0 a.1.1.0) a.0.now p

pub dealloc-contiguous-old-exported : Means dealloc-contiguous-old.ended dealloc-contiguous-old-reads.Post (λ κs a r e. Exported (C.dealloc_contiguous_old a.1.0 a.1.1.0) r a.0.now e.0.now)
dealloc-contiguous-old-exported κs a r e p = changes (C.dealloc_contiguous_old a.1.0 a.1.1.0) a.0.now p

pub insert-exported : Means insert.ended insert-reads.Post (λ κs a r e. Exported (C.insert a.1.0 a.1.1.0) r a.0.now e.0.now)
insert-exported κs a r e p = changes (C.insert a.1.0 a.1.1.0) a.0.now p

pub remove-exported : Means remove.ended remove-reads.Post (λ κs a r e. Exported (C.remove a.1.0 a.1.1.0) r a.0.now e.0.now)
remove-exported κs a r e p = changes (C.remove a.1.0 a.1.1.0) a.0.now p

pub is-empty-exported : Means is-empty.ended is-empty-reads.Post (λ κs a r e. Exported C.is_empty r a.0.now a.0.now)
is-empty-exported κs a r e p = looks C.is_empty refl p

pub test-exported : Means test.ended test-reads.Post (λ κs a r e. Exported (C.test a.1.0) r a.0.now a.0.now)
test-exported κs a r e p = looks (C.test a.1.0) refl p

pub check-exported : Means check.ended check-reads.Post (λ κs a r e. Exported C.check r a.0.now a.0.now)
check-exported κs a r e p = looks C.check refl p

-- ---- the image

pub image-write-exported : Means image-write.ended image-write-reads.Post (λ κs a r e.
    let s = a.0.now in
    let t = a.1.0.now in
    Crosses (write_says s t) r × (e.1.0.now ≡ write_after s t))
image-write-exported κs a r e p = (crosses _ _ (λ z. true≢false (sym (write-refusals a.0.now a.1.0.now 0 z))) p.0, p.1)

pub image-read-exported : Means image-read.ended image-read-reads.Post (λ κs a r e.
    let bytes = a.0.now in
    let t = a.1.0.now in
    Crosses (read_says bytes t) r × (e.1.0.now ≡ read_after bytes t))
image-read-exported κs a r e p = (crosses _ _ (λ z. true≢false (sym (read-refusals a.0.now a.1.0.now 0 z))) p.0, p.1)
