use Rattle.std.proofs.Common.{◌≡◌, ◌≤◌, ℕ, List, length, map, take, drop, refl, ap, ◌∙◌}
use Rattle.af_audit.proofs.Common.{CycleEntry, nat_le, playing, prefix_len, round_at, round_entries_at}
use Rattle.af_audit.specs.declared.run_judge.RunJudge.{RunJudge}
use Rattle.af_audit.specs.RoundTold.{early_of}
use Rattle.af_audit.proofs.MixersTell.{early_part, entered_so, late_part, mixers_so, turned_so}
use Rattle.af_audit.proofs.run_judge.RunJudge.mix.Goals as goal

pub returns-clause-told : goal.returns-clause-told
returns-clause-told c =
    let j : RunJudge = c.args.self.now in
    let turned : RunJudge = c.turn_if.new.self in
    let journal = c.args.journal.now in
    let log : List CycleEntry = c.log_in-log.result.now.entries in
    let told = c.entries_in-entries.result in
    let entries : List CycleEntry = map (λ e. e.entry) (round_at journal c.args.round).entries in
    let early = c.early_of-early.result in
    let own : take told.count (drop told.first log) ≡ entries =
    (λ i. take (c.entries_in-entries.ensures.count i) (drop (c.entries_in-entries.ensures.first i) (c.log_in-log.ensures.entries i))) ∙ round_entries_at journal c.args.round c.requires.round in
    let few : early.count ≤ told.count = c.early_of-early.ensures.count in
    let place : early.count ≡ early_of j entries =
    c.early_of-early.ensures.early ∙ (λ i. prefix_len (λ e. nat_le e.state (length (c.states.ensures i))) (own i)) in
    let first : take early.count (drop early.first log) ≡ take (early_of j entries) entries =
    ap (λ (k : ℕ). take early.count (drop k log)) c.early_of-early.ensures.first ∙ (early_part log told.first told.count early.count few ∙ (λ i. take (place i) (own i))) in
    let second : take c.late_of-late.result.count (drop c.late_of-late.result.first log) ≡ drop (early_of j entries) entries =
    (λ i. take (c.late_of-late.ensures.count i) (drop (c.late_of-late.ensures.first i) log)) ∙ (late_part log told.first told.count early.count few ∙ (λ i. drop (place i) (own i))) in
    mixers_so _ entries (round_at journal c.args.round).turn j c.args.tracks.now turned _ c.turn_if.new.tracks c.enter-2.new.tracks c.in_ok-normal.normal c.in_ok-before.before c.in_ok-after.after c.both.result c.enter.new.self c.enter.new.tracks
    (entered_so _ _ _ _ _ _ (playing j.fast c.args.tracks.now) (playing c.enter.new.self c.enter.new.tracks) c.in_ok-before.before c.states-2.ensures c.log_in-log.ensures.frames first c.in_ok-before.ensures.told c.in_ok-before.ensures.right)
    (turned_so _ turned c.enter.new.tracks c.turn_if.new.tracks _ _ _ _ c.in_ok-normal.normal second c.turn_in.ensures.turn c.in_ok-normal.ensures.told)
    (entered_so _ _ _ _ _ _ (playing turned.fast c.turn_if.new.tracks) (playing c.enter-2.new.self c.enter-2.new.tracks) c.in_ok-after.after c.states-3.ensures c.log_in-log.ensures.frames second c.in_ok-after.ensures.told c.in_ok-after.ensures.right) refl c.both.ensures
