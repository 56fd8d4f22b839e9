use Rattle.std.proofs.Common.{◌≡◌, ◌++◌, ◌∷◌, [], if◌then◌else◌, ap, ◌∙◌, sym, subst}
use Rattle.af_judge.proofs.Common.{FastState, Learnt, NormalKept, Plain, after_edits, is_pushed, learnt_of, tracks_due, turn_after, turn_of}
use Rattle.af_judge.specs.NormalJudged.{NormalJudged, IsJudged}
use Rattle.af_judge.proofs.NormalKept.{draft_so, last_so, dirty_so, pushed_so, due_so, still_judged, both_so, due_by}
use Rattle.af_judge.proofs.normal_judge.NormalJudge.advance.Goals as goal

-- what was learnt
abbrev learnt : (c : goal.After-are_due) → Learnt
learnt c = learnt_of c.args.report.now c.args.own.now

-- what the turn left
after : (c : goal.After-are_due) → c.turn.new.self.kept ≡ turn_after c.args.self.now.plain.setup (learnt c) c.args.self.now.plain.kept (turn_of c.args.entry.now)
after c = ap (λ (p : Plain). p.kept) c.turn.ensures.turn ∙ ap (λ (j : NormalJudged). turn_after j.plain.setup (learnt c) j.plain.kept (turn_of c.args.entry.now)) c.self.view_is

setup : (c : goal.After-are_due) → c.turn.new.self.setup ≡ c.args.self.now.plain.setup
setup c = ap (λ (p : Plain). p.setup) c.turn.ensures.turn ∙ ap (λ (x : NormalJudged). x.plain.setup) c.self.view_is

-- what is judged once the push was noted
pushed : (c : goal.After-are_due) → c.push.new.self ≡ record c.args.self.now {
  plain = c.turn.new.self;
  last = if is_pushed c.args.entry.now.push then c.turn.new.self.kept.draft else c.args.self.now.last;
  states = c.args.self.now.states ++ (if is_pushed c.args.entry.now.push then c.turn.new.self.kept.draft ∷ [] else []);
}
pushed c = c.in_ok-push.ensures.pushed ∙ ap (λ (j : NormalJudged). record j {
  plain = c.turn.new.self;
  last = if is_pushed c.args.entry.now.push then c.turn.new.self.kept.draft else j.last;
  states = j.states ++ (if is_pushed c.args.entry.now.push then c.turn.new.self.kept.draft ∷ [] else []);
}) c.self.view_is

pub returns-clause-judged : goal.returns-clause-judged
returns-clause-judged c =
    let j = c.args.self.now in
    subst IsJudged (sym (pushed c))
    (still_judged j c.turn.new.self _ _ c.requires.judged (setup c)
    (ap (λ (x : FastState). if is_pushed c.args.entry.now.push then c.turn.new.self.kept.draft else x) c.requires.judged.last
    ∙ sym (last_so j.plain.setup (learnt c) j.plain.kept (turn_of c.args.entry.now) c.turn.new.self (after c) c.requires.entry.1))
    c.turn.ensures.small)

pub returns-clause-states : goal.returns-clause-states
returns-clause-states c =
    let j = c.args.self.now in
    ap (λ (x : NormalJudged). x.states) (pushed c)
    ∙ ap (λ (x : FastState). j.states ++ (if is_pushed c.args.entry.now.push then x ∷ [] else [])) (draft_so j.plain.setup (learnt c) j.plain.kept (turn_of c.args.entry.now) c.turn.new.self (after c) c.requires.entry.1)

pub returns-clause-right : goal.returns-clause-right
returns-clause-right c =
    let j = c.args.self.now in
    let e = turn_of c.args.entry.now in
    let p = c.turn.new.self in
    let x : NormalKept = after_edits j.plain.setup (learnt c) e j.plain.kept in
    let dirty = dirty_so j.plain.setup (learnt c) j.plain.kept e p (after c) c.requires.entry.1 c.is_dirty-dirty.result c.draft.result.now c.draft-2.result.now c.is_to_push-to_push.result
    (c.is_dirty-dirty.ensures ∙ ap (λ (y : NormalJudged). y.plain.kept.dirty) c.self.view_is)
    (c.draft.ensures ∙ ap (λ (y : NormalJudged). y.plain.kept.draft) c.self.view_is)
    c.draft-2.ensures
    c.is_to_push-to_push.ensures in
    let count = pushed_so j.plain.setup (learnt c) j.plain.kept e p (after c) c.requires.entry.1 ∙ sym (c.pushed-pushed.ensures ∙ ap (λ (y : NormalJudged). y.plain.kept.pushed) c.self.view_is) in
    let due = due_by c.as_slice-takes.result.now c.args.entry.now.mixes.items c.self-2.inside.setup j.plain.setup c.args.entry.now.room c.tracks.result.now p.kept.tracks (tracks_due j.plain.setup c.args.entry.now.room x.tracks) c.are_due.result
    c.as_slice-takes.ensures
    (ap (λ (y : NormalJudged). y.setup) (c.self-2.view_is ∙ pushed c) ∙ c.requires.judged.setup)
    (c.tracks.ensures ∙ ap (λ (y : NormalJudged). y.plain.kept.tracks) (c.self-2.view_is ∙ pushed c))
    (due_so j.plain.setup (learnt c) j.plain.kept e p (after c) c.requires.entry.1 c.args.entry.now.room)
    c.are_due.ensures in
    both_so c.is_legal_push-legal.result c.are_due.result (c.is_legal_push-legal.ensures x dirty count) due
