use Rattle.std.proofs.Common.{◌≡◌, ◌≢◌, ℕ, ◌+◌, ◌-◌, ◌≤◌, List, ◌++◌, length, take, drop, map, ap, ◌∙◌, subst, arith}
use Rattle.af_record.proofs.Common.{Frame, length-drop, packed_word, take_all}
use Rattle.af_record.proofs.Puts.{looked_first, sent_on}
use Rattle.af_record.proofs.putting.put_all.Goals as goal

pub loop-put-preserved : goal.loop-put-preserved
loop-put-preserved g c =
    let i = c.loop-put.invariant in
    let e = c.put_some-count.ensures in
    let frames : List Frame = c.args.frames.now in
    let put : ℕ = c.loop-put.put in
    let count : ℕ = c.put_some-count.result in
    let left : length (drop put frames) ≡ length frames - put = length-drop put frames in
    let rest : take (length frames - put) (drop put frames) ≡ drop put frames = take_all (length frames - put) (drop put frames) (omega arith) in
    let few : count ≤ length (drop put frames) = subst (λ (xs : List Frame). count ≤ length xs) rest e.few in
    let within : put ≤ length frames = i.within in
    let some : 1 ≤ count = (let d : count ≢ 0 = c.if-count-eq0.false in omega arith) in
    record {
      made = e.made;
      order = e.order;
      writes = e.writes;
      within = omega arith;
      sent = sent_on c.args.client.now.pass.part.frames c.loop-put.client.pass.part.frames c.put_some-count.new.client.pass.part.frames frames put count within i.sent e.put;
      released = (let a = i.released in let b = e.released in omega arith);
      room = λ more. e.stopped.1 some;
      quiet = λ none. absurd (omega arith);
      looked = λ more. looked_first put c.args.client.now.pass.part.events c.loop-put.client.pass.part.events c.put_some-count.new.client.pass.part.events i.quiet i.looked e.looked;
      few = (let a = e.steps in let b = i.few in omega arith);
    }

pub returns-then-count-eq0-clause-put : goal.returns-then-count-eq0-clause-put
returns-then-count-eq0-clause-put g c =
    let i = c.loop-put.invariant in
    let frames : List Frame = c.args.frames.now in
    let old : List ℕ = c.args.client.now.pass.part.frames in
    let same : c.loop-put.put + c.put_some-count.result ≡ c.loop-put.put = (let e = c.if-count-eq0.true in omega arith) in
    sent_on old c.loop-put.client.pass.part.frames c.put_some-count.new.client.pass.part.frames frames c.loop-put.put c.put_some-count.result i.within i.sent c.put_some-count.ensures.put
    ∙ ap (λ (n : ℕ). old ++ map packed_word (take n frames)) same

pub returns-then-count-eq0-clause-looked : goal.returns-then-count-eq0-clause-looked
returns-then-count-eq0-clause-looked g c =
    let i = c.loop-put.invariant in
    looked_first c.loop-put.put c.args.client.now.pass.part.events c.loop-put.client.pass.part.events c.put_some-count.new.client.pass.part.events i.quiet i.looked c.put_some-count.ensures.looked

pub returns-clause-looked : goal.returns-clause-looked
returns-clause-looked g c =
    let some : 1 ≤ length c.args.frames.now = c.requires.some in
    let end : length c.args.frames.now ≤ c.loop-put.put = omega arith in
    c.loop-put.invariant.looked (omega arith)
