-- The theorems of this crate are about the code: of each public call, the generated contract says that the answer is what `call_says`
-- has, and the words at exit are what `call_after` makes of those at entry. A store that is lent to be read is at exit what it was at
-- entry. Assumes nothing.
use mathlib.Core.Path.{◌≡◌, refl, sym}
use mathlib.Core.Bool.{Bool, true, false, cond}
use mathlib.Core.List.{List}
use Prim.Native.Nat.{ℕ}
use lib.Dec.{leb}
use lib.ListN.{length}
use Rattle.words.specs.Sizes.{level_of}
use Rattle.bitmap.specs.Answer.{taken, changed, told}
use Rattle.bitmap.specs.Calls.{after}
use Rattle.bitmap.specs.Contract.{Means}
use Rattle.laws.specs.Call as C
use Rattle.laws.specs.Does.{Does}
use Rattle.bitmap.specs.contracts.alloc as alloc
use Rattle.bitmap.proofs.alloc.Reads as alloc-reads
use Rattle.bitmap.specs.contracts.alloc_contiguous as alloc-contiguous
use Rattle.bitmap.proofs.alloc_contiguous.Reads as alloc-contiguous-reads
use Rattle.bitmap.specs.contracts.next as next
use Rattle.bitmap.proofs.next.Reads as next-reads
use Rattle.bitmap.specs.contracts.dealloc as dealloc
use Rattle.bitmap.proofs.dealloc.Reads as dealloc-reads
use Rattle.bitmap.specs.contracts.dealloc_contiguous as dealloc-contiguous
use Rattle.bitmap.proofs.dealloc_contiguous.Reads as dealloc-contiguous-reads
use Rattle.bitmap.specs.contracts.dealloc_contiguous_old as dealloc-contiguous-old
use Rattle.bitmap.proofs.dealloc_contiguous_old.Reads as dealloc-contiguous-old-reads
use Rattle.bitmap.specs.contracts.insert as insert
use Rattle.bitmap.proofs.insert.Reads as insert-reads
use Rattle.bitmap.specs.contracts.remove as remove
use Rattle.bitmap.proofs.remove.Reads as remove-reads
use Rattle.bitmap.specs.contracts.is_empty as is-empty
use Rattle.bitmap.proofs.is_empty.Reads as is-empty-reads
use Rattle.bitmap.specs.contracts.test as test
use Rattle.bitmap.proofs.test.Reads as test-reads
use Rattle.bitmap.specs.contracts.check as check
use Rattle.bitmap.proofs.check.Reads as check-reads

-- a call that changes nothing leaves the words as lent, whatever their count is
pub after-same : (s : List ℕ) → after (λ k t. t) s ≡ s
unfolding after
after-same s = by (leb 7 (level_of (length s)))
  where
    by : (b : Bool) → cond b s s ≡ s
    by true = refl
    by false = refl

pub alloc-does : Means alloc.ended alloc-reads.Post (λ κs a r e. Does C.alloc (taken r) a.0.now e.0.now)
alloc-does κs a r e p = p

pub alloc-contiguous-does : Means alloc-contiguous.ended alloc-contiguous-reads.Post (λ κs a r e. Does (C.alloc_contiguous a.1.0 a.1.1.0 a.1.1.1.0) (taken r) a.0.now e.0.now)
alloc-contiguous-does κs a r e p = p

pub next-does : Means next.ended next-reads.Post (λ κs a r e. Does (C.next a.1.0) (taken r) a.0.now a.0.now)
next-does κs a r e p = (p, sym (after-same a.0.now))

pub dealloc-does : Means dealloc.ended dealloc-reads.Post (λ κs a r e. Does (C.dealloc a.1.0) (changed r) a.0.now e.0.now)
dealloc-does κs a r e p = p

pub dealloc-contiguous-does : Means dealloc-contiguous.ended dealloc-contiguous-reads.Post (λ κs a r e. Does (C.dealloc_contiguous a.1.0 a.1.1.0) (changed r) a.0.now e.0.now)
dealloc-contiguous-does κs a r e p = p

pub dealloc-contiguous-old-does : Means dealloc-contiguous-old.ended dealloc-contiguous-old-reads.Post (λ κs a r e. Does (C.dealloc_contiguous_old a.1.0 a.1.1.0) (changed r) a.0.now e.0.now)
dealloc-contiguous-old-does κs a r e p = p

pub insert-does : Means insert.ended insert-reads.Post (λ κs a r e. Does (C.insert a.1.0 a.1.1.0) (changed r) a.0.now e.0.now)
insert-does κs a r e p = p

pub remove-does : Means remove.ended remove-reads.Post (λ κs a r e. Does (C.remove a.1.0 a.1.1.0) (changed r) a.0.now e.0.now)
remove-does κs a r e p = p

pub is-empty-does : Means is-empty.ended is-empty-reads.Post (λ κs a r e. Does C.is_empty (told r) a.0.now a.0.now)
is-empty-does κs a r e p = (p, sym (after-same a.0.now))

pub test-does : Means test.ended test-reads.Post (λ κs a r e. Does (C.test a.1.0) (told r) a.0.now a.0.now)
test-does κs a r e p = (p, sym (after-same a.0.now))

pub check-does : Means check.ended check-reads.Post (λ κs a r e. Does C.check (told r) a.0.now a.0.now)
check-does κs a r e p = (p, sym (after-same a.0.now))
