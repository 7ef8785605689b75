-- `lines::session::step` meets its contract: the reply and the map after it are the line's. Assumes nothing.
use Rattle.std.proofs.Common.{◌≡◌, ap, ◌∙◌, ℕ, ◌+◌, ◌≤◌, List, ◌++◌, length, take, drop, arith}
use lib.ListN.{get_or, length-append, length-drop}
use lib.Seq.{take_at, length-take-le}
use Rattle.std.proofs.lemmas.List.Edits.{sets}
use Rattle.lines.specs.declared.read.Line.{Line}
use Rattle.lines.specs.Line.{line_of}
use Rattle.lines.specs.Reply.{Reply, No, replied, text, replies, afters, allowed, reply_to, opened, map_after}
use Rattle.lines.specs.Session.{renewed}
use Rattle.lines.proofs.Replies.{Fine, reply-is, map-is, fine-is, opened-room, opened-more, opened-renewed}
use Rattle.lines.proofs.Puts.{left, written-at}
use Rattle.lines.proofs.Cases.{table-fine}
use Rattle.lines.proofs.session.step.Goals as goal

-- a line l as it is read, its number in the table, and the reply r, on the words `store`, whose first n are the map
module _ (line store : List ℕ) {n code : ℕ} {l : Line} {r : Reply} (fits : n ≤ length store) (read : l ≡ line_of line)
    (is : code ≡ allowed n l.code) (answered : r ≡ get_or (replies l.a l.b l.c (take n store)) code (No 10)) where
  sized : length (take n store) ≡ n
  sized = length-take-le n store fits

  -- the reply is the line's
  said : r ≡ reply_to (take n store) (line_of line)
  said = answered ∙ reply-is (take n store) l sized is ∙ ap (reply_to (take n store)) read

  -- what has come back of the map, and all the words then
  module _ {back : List ℕ} (left : back ≡ get_or (afters l.a l.b l.c (take n store)) code (take n store)) (as_long : length back ≡ length (take n store)) where
    abbrev all : List ℕ
    all = back ++ drop n store

    sized-back : length back ≡ n
    sized-back = as_long ∙ sized

    sized-all : length all ≡ length store
    sized-all = omega (arith, length-append back (drop n store), length-drop n store, sized-back)

    front : take n all ≡ back
    front = take_at back (drop n store) n sized-back

    -- the map after it is the line's
    mapped : opened r back ≡ map_after (take n store) (line_of line)
    mapped =
        map-is (take n store) l sized is r back (answered ∙ reply-is (take n store) l sized is) left
        ∙ ap (map_after (take n store)) read

    fine : Fine r back (take n store)
    fine = fine-is (take n store) l sized is r back answered left (table-fine l.a l.b l.c (take n store) l.code)

    known : (length back ≡ n)
        × (length all ≡ length store)
        × (take n all ≡ back)
        × (opened r back ≡ map_after (take n store) (line_of line))
        × Fine r back (take n store)
    known = (sized-back, sized-all, front, mapped, fine)

pub put_reply-count-requires : goal.put_reply-count-requires
put_reply-count-requires c =
    let a = c.args in
    rw (said a.line.now a.words.now c.requires.0 c.read_line-l.ensures c.allowed-code.ensures c.answer-reply.ensures.value)
    (omega (arith, ap length (left a.out.now a.from.at), length-drop a.from.at a.out.now, c.requires.2))

pub open-n-requires : goal.open-n-requires
open-n-requires c =
    let a = c.args in
    let d = c.answer-reply in
    let q = c.requires in
    let k =
    known a.line.now a.words.now q.0 c.read_line-l.ensures c.allowed-code.ensures d.ensures.value d.ensures.map_after d.auto.map in (
      omega (arith, k.1, q.0),
      rw k.2 (opened-room (replied d.result) d.new.map (take a.from.n a.words.now) _ k.4 (omega (arith, k.1, q.1)) (omega (arith, k.0, k.1, q.0))),
    )

pub returns : goal.returns
returns c =
    let a = c.args in
    let d = c.answer-reply in
    let q = c.requires in
    let reply = said a.line.now a.words.now q.0 c.read_line-l.ensures c.allowed-code.ensures d.ensures.value in
    let k =
    known a.line.now a.words.now q.0 c.read_line-l.ensures c.allowed-code.ensures d.ensures.value d.ensures.map_after d.auto.map in
    let count = c.open-n.ensures.value ∙ ap (λ (x : List ℕ). length (opened (replied d.result) x)) k.2 in
    record {
      mapped = c.open-n.ensures.words_after
          ∙ ap (λ (x : List ℕ). renewed (opened (replied d.result) x) (d.new.map ++ drop a.from.n a.words.now)) k.2
          ∙ opened-renewed d.new.map a.words.now a.from.n k.0 (replied d.result) k.4
          ∙ ap (λ (x : List ℕ). renewed x a.words.now) k.3;
      count = count ∙ ap length k.3;
      more = omega (arith, opened-more (replied d.result) d.new.map (take a.from.n a.words.now) k.4 d.auto.map, k.0, d.auto.map, count);
      printed-on = written-at a.out.now (text (replied d.result)) a.from.at (omega (arith, ap (λ (x : Reply). length (text x)) reply, q.2)) c.put_reply-count.ensures.out_after
          ∙ ap (λ (x : Reply). sets a.out.now a.from.at (text x)) reply;
      next = ap (λ (k : ℕ). a.from.at + k) c.put_reply-count.ensures.value ∙ ap (λ (x : Reply). a.from.at + length (text x)) reply;
    }
