use Rattle.std.proofs.Common.{rules, ◌≡◌, ◌∙◌, ap, arith, ℕ, Bool, false, List, cond, replicate, map, length, slice_index_or, subst}
use Rattle.af_journal.proofs.Common.{length-replicate, on_ok, take_at}
use Rattle.af_journal.specs.Pokes.{PokeJust}
use Rattle.af_journal.proofs.MarkLines.{marks_just}
use Rattle.af_journal.proofs.poked.pokes_in.Goals as goal

pub returns : goal.returns
returns c =
    let tracks : ℕ = c.args.tracks in
    let streams : List Bool = c.mark_all.new.streams in
    let commands : List Bool = c.mark_all.new.commands in
    let first : c.as_mut_slice.result.now ≡ replicate tracks false = search rules in
    let second : c.as_mut_slice-2.result.now ≡ replicate tracks false = search rules in
    let long : length streams ≡ c.in_ok-streams.streams.len = omega (arith, c.mark_all.auto.streams, ap length first, length-replicate tracks false, c.in_ok-streams.ensures.len) in
    let long_too : length commands ≡ c.in_ok-commands.commands.len = omega (arith, c.mark_all.auto.commands, ap length second, length-replicate tracks false, c.in_ok-commands.ensures.len) in
    let one : c.as_slice.result.now ≡ streams = c.as_slice.ensures.value ∙ take_at streams _ _ long in
    let two : c.as_slice-2.result.now ≡ commands = c.as_slice-2.ensures.value ∙ take_at commands _ _ long_too in
    on_ok _ _ c.all_calls.result
    (λ clients h ws fits is. marks_just tracks ws c.as_mut_slice.result.now c.as_mut_slice-2.result.now streams commands (map (λ c. c.items) clients.items) first second (c.mark_all.ensures ws fits is)
    (subst (λ (x : List Bool × List Bool). PokeJust (length x.0) (λ block track. slice_index_or (cond block x.1 x.0) track false) (map (λ c. c.items) clients.items)) (λ i. (one i, two i)) h)) c.all_calls.ensures
