-- One answer: of each exported call, two answers and two exits that both meet the generated contract for the same arguments are the same.
-- The contract is that of the function of crates/asogeren, of which it is proved there. Assumes nothing.
use Rattle.bitmap.specs.Contract.{OneAnswer}
use Rattle.asogeren.proofs.OneAnswer as library
use Rattle.asogeren_c.specs.contracts.asogeren_alloc as alloc
use Rattle.asogeren_c.proofs.asogeren_alloc.Reads as alloc-reads
use Rattle.asogeren_c.specs.contracts.asogeren_alloc_contiguous as alloc-contiguous
use Rattle.asogeren_c.proofs.asogeren_alloc_contiguous.Reads as alloc-contiguous-reads
use Rattle.asogeren_c.specs.contracts.asogeren_alloc_contiguous_at as alloc-contiguous-at
use Rattle.asogeren_c.proofs.asogeren_alloc_contiguous_at.Reads as alloc-contiguous-at-reads
use Rattle.asogeren_c.specs.contracts.asogeren_next as next
use Rattle.asogeren_c.proofs.asogeren_next.Reads as next-reads
use Rattle.asogeren_c.specs.contracts.asogeren_dealloc as dealloc
use Rattle.asogeren_c.proofs.asogeren_dealloc.Reads as dealloc-reads
use Rattle.asogeren_c.specs.contracts.asogeren_dealloc_contiguous as dealloc-contiguous
use Rattle.asogeren_c.proofs.asogeren_dealloc_contiguous.Reads as dealloc-contiguous-reads
use Rattle.asogeren_c.specs.contracts.asogeren_dealloc_contiguous_old as dealloc-contiguous-old
use Rattle.asogeren_c.proofs.asogeren_dealloc_contiguous_old.Reads as dealloc-contiguous-old-reads
use Rattle.asogeren_c.specs.contracts.asogeren_insert as insert
use Rattle.asogeren_c.proofs.asogeren_insert.Reads as insert-reads
use Rattle.asogeren_c.specs.contracts.asogeren_remove as remove
use Rattle.asogeren_c.proofs.asogeren_remove.Reads as remove-reads
use Rattle.asogeren_c.specs.contracts.asogeren_is_empty as is-empty
use Rattle.asogeren_c.proofs.asogeren_is_empty.Reads as is-empty-reads
use Rattle.asogeren_c.specs.contracts.asogeren_test as test
use Rattle.asogeren_c.proofs.asogeren_test.Reads as test-reads
use Rattle.asogeren_c.specs.contracts.asogeren_check as check
use Rattle.asogeren_c.proofs.asogeren_check.Reads as check-reads
use Rattle.asogeren_c.specs.contracts.asogeren_image_write as image-write
use Rattle.asogeren_c.proofs.asogeren_image_write.Reads as image-write-reads
use Rattle.asogeren_c.specs.contracts.asogeren_image_read as image-read
use Rattle.asogeren_c.proofs.asogeren_image_read.Reads as image-read-reads

pub alloc-once : OneAnswer alloc.ended alloc-reads.Post
alloc-once = library.alloc-once

pub alloc-contiguous-once : OneAnswer alloc-contiguous.ended alloc-contiguous-reads.Post
alloc-contiguous-once = library.alloc-contiguous-once

pub alloc-contiguous-at-once : OneAnswer alloc-contiguous-at.ended alloc-contiguous-at-reads.Post
alloc-contiguous-at-once = library.alloc-contiguous-at-once

pub next-once : OneAnswer next.ended next-reads.Post
next-once = library.next-once

pub dealloc-once : OneAnswer dealloc.ended dealloc-reads.Post
dealloc-once = library.dealloc-once

pub dealloc-contiguous-once : OneAnswer dealloc-contiguous.ended dealloc-contiguous-reads.Post
dealloc-contiguous-once = library.dealloc-contiguous-once

pub dealloc-contiguous-old-once : OneAnswer dealloc-contiguous-old.ended dealloc-contiguous-old-reads.Post
dealloc-contiguous-old-once = library.dealloc-contiguous-old-once

pub insert-once : OneAnswer insert.ended insert-reads.Post
insert-once = library.insert-once

pub remove-once : OneAnswer remove.ended remove-reads.Post
remove-once = library.remove-once

pub is-empty-once : OneAnswer is-empty.ended is-empty-reads.Post
is-empty-once = library.is-empty-once

pub test-once : OneAnswer test.ended test-reads.Post
test-once = library.test-once

pub check-once : OneAnswer check.ended check-reads.Post
check-once = library.check-once

pub image-write-once : OneAnswer image-write.ended image-write-reads.Post
image-write-once = library.image-write-once

pub image-read-once : OneAnswer image-read.ended image-read-reads.Post
image-read-once = library.image-read-once
