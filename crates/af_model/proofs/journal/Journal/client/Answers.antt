use Rattle.std.proofs.Common.{◌≡◌, ◌<◌, ℕ, length, map, slice_index_or, ap, sym, subst, ◌∙◌, rules, arith, [], List}
use Rattle.af_model.proofs.Common.{ClientCall, get_or-map, length-map}
use Rattle.af_model.proofs.Basics.{same_rounds}
use Rattle.af_model.specs.Journals.{JournalData, RoundNoted, entries_seen, round_at}
use Rattle.af_model.proofs.Journals.{each-has-calls, same-calls}
use Rattle.af_model.proofs.journal.Journal.client.Goals as goal

pub round-requires : goal.round-requires
round-requires c = let log = c.self.inside.log in
    subst (λ (n : ℕ). c.args.round < n) (ap (λ (j : JournalData). length j.rounds) (sym c.self.view_is) ∙ same_rounds (entries_seen log.frames log.entries) c.self.inside.noted.rounds) c.requires.round

pub index-requires : goal.index-requires
index-requires c = let log = c.self.inside.log in let noted = c.self.inside.noted in let calls = c.round.result.now.calls.items in
    let there : c.args.round < length noted.rounds = subst (λ (n : ℕ). c.args.round < n) (ap (λ (j : JournalData). length j.rounds) (sym c.self.view_is) ∙ same_rounds (entries_seen log.frames log.entries) noted.rounds) c.requires.round in
    let tracks : noted.tracks ≡ c.args.self.now.tracks = ap (λ (j : JournalData). j.tracks) c.self.view_is in
    let count : length calls ≡ noted.tracks = sym (length-map calls (λ calls. calls.items)) ∙ ap (λ (r : RoundNoted). length r.calls) c.round.ensures.noted ∙ each-has-calls noted log c.self.invariant.1 c.args.round there in
    search (rules, count, tracks, c.requires.track)

pub returns : goal.returns
returns c = let log = c.self.inside.log in let noted = c.self.inside.noted in let calls = c.round.result.now.calls.items in
    let there : c.args.round < length noted.rounds = subst (λ (n : ℕ). c.args.round < n) (ap (λ (j : JournalData). length j.rounds) (sym c.self.view_is) ∙ same_rounds (entries_seen log.frames log.entries) noted.rounds) c.requires.round in
    let tracks : noted.tracks ≡ c.args.self.now.tracks = ap (λ (j : JournalData). j.tracks) c.self.view_is in
    let count : length calls ≡ noted.tracks = sym (length-map calls (λ calls. calls.items)) ∙ ap (λ (r : RoundNoted). length r.calls) c.round.ensures.noted ∙ each-has-calls noted log c.self.invariant.1 c.args.round there in
    let inside : c.args.track < length calls = let lt = c.requires.track in omega arith in
    let same : map (λ calls. calls.items) calls ≡ (round_at c.args.self.now c.args.round).calls =
    ap (λ (r : RoundNoted). r.calls) c.round.ensures.noted ∙ sym (same-calls (entries_seen log.frames log.entries) noted.rounds c.args.round)
    ∙ ap (λ (j : JournalData). (round_at j c.args.round).calls) c.self.view_is in
    let here : c.index.result.now ≡ slice_index_or calls c.args.track c.index.result.now = search rules in
    let shown : c.as_slice.result.now ≡ c.index.result.now.items = search rules in
    shown ∙ ap (λ calls. calls.items) here ∙ sym (get_or-map (λ calls. calls.items) calls c.args.track c.index.result.now [] inside) ∙ ap (λ (l : List (List ClientCall)). slice_index_or l c.args.track []) same
