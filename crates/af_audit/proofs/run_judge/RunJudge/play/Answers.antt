use Rattle.std.specs.Prelude.{◌↔◌}
use Rattle.std.proofs.Common.{◌≡◌, Bool, List, length, map, take, sym, ap, subst, ◌∙◌}
use Rattle.af_audit.proofs.Common.{CycleEntry, FastKept, IsTrue, MayEnter, NormalJudged, TrackJudge, entries_of, frames_of, round_at}
use Rattle.af_audit.specs.declared.run_judge.RunJudge.{RunJudge}
use Rattle.af_audit.specs.RoundTold.{MixersTold, tracks_ended}
use Rattle.af_audit.proofs.run_judge.RunJudge.play.Goals.{then-has_ended, else-has_ended}
use Rattle.af_audit.proofs.run_judge.RunJudge.play.Goals as goal

pub returns-clause-told : goal.returns-clause-told
returns-clause-told c =
    let j : RunJudge = c.args.self.now in
    let all = entries_of c.args.journal.now.rounds in
    let log : List CycleEntry = map (λ e. e.entry) all in
    let own = round_at c.args.journal.now c.args.round in
    let mixed : RunJudge = c.mix.new.self in
    let met : List TrackJudge = c.meet_all.new.tracks in
    let ends : c.has_ended.result ≡ mixed.normal.plain.kept.ended = c.has_ended.ensures ∙ ap (λ (n : NormalJudged). n.plain.kept.ended) c.in_ok-shared.ensures.same in
    let after : c.if-has_ended.tracks ≡ tracks_ended mixed.normal.plain.kept.ended met =
    elim c.if-has_ended.branch [
      | then-has_ended w ↦ w.tracks-is ∙ (w.end_all.ensures ∙ ap (λ (b : Bool). tracks_ended b met) (sym w.if-has_ended.true ∙ ends))
      | else-has_ended w ↦ w.tracks-is ∙ ap (λ (b : Bool). tracks_ended b met) (sym w.if-has_ended.false ∙ ends)
    ] in
    record {
      called = c.call_all.new.tracks;
      many = c.in_ok-caller.ensures.count;
      calls = c.in_ok-caller.ensures.calls;
      may = c.may_enter-may.result;
      may_is = subst (λ (f : FastKept). IsTrue c.may_enter-may.result ↔ MayEnter c.args.cut f j.cycles log (length (entries_of (take c.args.round c.args.journal.now.rounds))) (length own.entries)) c.begin_round.ensures c.may_enter-may.ensures;
      right = c.in_ok-normal.normal;
      entered = c.in_ok-normal.fast;
      mixed = mixed;
      played = c.mix.new.tracks;
      mixers = subst (λ (f : FastKept). MixersTold (frames_of all) (map (λ e. e.entry) own.entries) own.turn (record j { fast = f }) c.call_all.new.tracks c.in_ok-normal.normal c.in_ok-normal.fast mixed c.mix.new.tracks) c.begin_round.ensures c.in_ok-normal.ensures.told;
      met = met;
      as_many = c.in_ok-met.ensures.count;
      tracks_met = c.in_ok-met.ensures.met;
      shared = c.in_ok-shared.shared;
      shared_is = c.in_ok-shared.ensures.right;
      left = c.in_ok-shared.ensures.met;
      ended = after;
      normal_is = c.both.ensures;
      fast_is = c.both-2.ensures;
    }
