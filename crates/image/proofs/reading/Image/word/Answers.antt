-- `image::reading::Image::word` meets its contract. Assumes nothing.
use Rattle.std.proofs.Common.{arith}
use Rattle.image.proofs.ImageParts.{word-read, word-inside}
use Rattle.image.proofs.reading.Image.word.Goals as goal

pub overflow_mul-j : goal.overflow_mul-j
overflow_mul-j c = let a = c.args in omega (arith, word-inside _ _ a.j a.self.now.sized.0 c.requires.0 c.requires.1)

pub overflow_add-start_of-2 : goal.overflow_add-start_of-2
overflow_add-start_of-2 c = let a = c.args in omega (arith, word-inside _ _ a.j a.self.now.sized.0 c.requires.0 c.requires.1)

pub word_at-requires : goal.word_at-requires
word_at-requires c = let a = c.args in omega (arith, word-inside _ _ a.j a.self.now.sized.0 c.requires.0 c.requires.1)

pub returns : goal.returns
returns c = word-read _ _ _ c.word_at.ensures c.start_of.ensures.0
