use Rattle.std.proofs.Common.{rules, ◌≡◌, ℕ, ◌++◌, [], Bool, ap, ◌∙◌, subst, List, append_assoc, append-nil}
use Rattle.af_normal.proofs.Common.{CommandLook, Life, ServerEvent, ServerState, StartsWith, TrackKept, after_part, all_command_events, by_report, is_found_shut, listed, status_events, status_word, words_taken}
use Rattle.af_normal.specs.Serving.{Adds, Recalls, shut_events}
use Rattle.af_normal.proofs.attend.attend.Goals as goal

-- what the looks, the mark and the status add
three : (s a b d : ServerState) (xs ys zs : List ServerEvent) (words : List ℕ) → a.pass.part.events ≡ s.pass.part.events ++ xs → a.pass.part.frames ≡ s.pass.part.frames ++ words → a.pass.part.shape ≡ s.pass.part.shape → Adds a ys [] b → Adds b zs [] d
    → Adds s (xs ++ ys ++ zs) words d
three s a b d xs ys zs words list took shape mark status = record {
  list = status.list ∙ ap (λ (es : List ServerEvent). es ++ zs) (mark.list ∙ ap (λ (es : List ServerEvent). es ++ ys) list ∙ append_assoc s.pass.part.events xs ys) ∙ append_assoc s.pass.part.events (xs ++ ys) zs;
  took = status.took ∙ append-nil b.pass.part.frames ∙ mark.took ∙ append-nil a.pass.part.frames ∙ took;
  shape = status.shape ∙ mark.shape ∙ shape;
}

pub returns-clause-attends : goal.returns-clause-attends
returns-clause-attends g c =
    let looks : List CommandLook = c.obey-told.new.looks.items in
    let shut = c.is_found_shut-shut.ensures ∙ ap (is_found_shut c.args.heard) c.as_slice.ensures in
    record {
      fronts = c.obey-told.ensures.looks.fronts;
      legal = search (rules);
      looks = search (rules);
      commanded = subst (λ (b : Bool). Adds c.args.command.now (all_command_events (listed c.args.command.now) looks c.obey-told.ensures.looks.fronts ++ shut_events b ++ status_events c.stored_over-status.result) (words_taken looks) c.store_status.new.command) shut
          (three c.args.command.now c.obey-told.new.command c.mark.new.server c.store_status.new.command (all_command_events (listed c.args.command.now) looks c.obey-told.ensures.looks.fronts) (shut_events c.is_found_shut-shut.result) (status_events c.stored_over-status.result) (words_taken looks)
          c.obey-told.ensures.looks.list c.obey-told.ensures.looks.took c.obey-told.ensures.looks.shape c.mark.ensures.list c.store_status.ensures.list);
      whole = search (rules);
      streamed = search (rules);
      recalled = subst (λ (b : Bool). Recalls c.args.stream.now (shut_events b) c.args.hand.now) shut (λ s is some. subst (λ (k : List ServerEvent). StartsWith s.pass.part.events k) c.disable.ensures.list.known (c.mark_stream.ensures.recalls s is some));
      disabled = search (rules);
    }

pub returns-clause-track : goal.returns-clause-track
unfolding after_part
returns-clause-track g c =
    let told : TrackKept = c.obey-told.result in
    let looks : List CommandLook = c.obey-told.new.looks.items in
    let shut = c.is_found_shut-shut.ensures ∙ ap (is_found_shut c.args.heard) c.as_slice.ensures in
    ap (λ (word : ℕ). record told { life = c.on_report-disabled.result.0; status = word }) c.status_word-word.ensures
    ∙ ap (λ (b : Bool). record told { life = c.on_report-disabled.result.0; status = status_word b (record told { life = c.on_report-disabled.result.0 }) }) shut
    ∙ ap (λ (life : Life). record told { life = life; status = status_word (is_found_shut c.args.heard looks) (record told { life = life }) }) c.on_report-disabled.ensures.table
    ∙ ap (λ (t : TrackKept). record t { life = by_report c.args.heard.known t.life; status = status_word (is_found_shut c.args.heard looks) (record t { life = by_report c.args.heard.known t.life }) }) c.obey-told.ensures.track
