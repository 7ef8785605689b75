-- The theorems of this crate are about the code: the generated contract of each call says that the answer is what `write_says` or
-- `read_says` has, and the target at exit is what `write_after` or `read_after` makes of it. Assumes nothing.
use mathlib.Core.Path.{◌≡◌}
use Rattle.bitmap.specs.Contract.{Means}
use Rattle.bitmap.specs.Answer.{taken}
use Rattle.image.specs.Calls.{write_says, write_after, read_says, read_after}
use Rattle.image.specs.contracts.write as write
use Rattle.image.proofs.write.Reads as write-reads
use Rattle.image.specs.contracts.read as read
use Rattle.image.proofs.read.Reads as read-reads

pub write-does : Means write.ended write-reads.Post (λ κs a r e.
    let s = a.0.now in
    let t = a.1.0.now in
    (taken r ≡ write_says s t) × (e.1.0.now ≡ write_after s t))
write-does κs a r e p = p

pub read-does : Means read.ended read-reads.Post (λ κs a r e.
    let bytes = a.0.now in
    let t = a.1.0.now in
    (taken r ≡ read_says bytes t) × (e.1.0.now ≡ read_after bytes t))
read-does κs a r e p = p
