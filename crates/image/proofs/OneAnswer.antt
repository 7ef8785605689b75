-- One answer: two answers and two exits of a call that both meet its generated contract for the same arguments are equal.
-- Assumes nothing.
use Rattle.bitmap.specs.Answer.{taken}
use Rattle.bitmap.specs.Contract.{OneAnswer}
use Rattle.bitmap.proofs.OneSaid.{taken-one, once}
use Rattle.image.specs.contracts.write as write
use Rattle.image.proofs.write.Reads as write-reads
use Rattle.image.specs.contracts.read as read
use Rattle.image.proofs.read.Reads as read-reads

pub write-once : OneAnswer write.ended write-reads.Post
write-once κs a r₁ r₂ w₁ w₂ p q = once taken taken-one (λ l. (w₁.0, (l, w₁.1.1))) p q

pub read-once : OneAnswer read.ended read-reads.Post
read-once κs a r₁ r₂ w₁ w₂ p q = once taken taken-one (λ l. (w₁.0, (l, w₁.1.1))) p q
