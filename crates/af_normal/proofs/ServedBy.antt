-- A track is served by what was learnt, if the code did so by the same report and the same proxy.
use Rattle.std.proofs.Common.{◌≡◌, ℕ, Bool, true, false, MatchBool, [], ◌∷◌, ◌++◌, if◌then◌else◌, List, slice_set, Option, sym, ap, subst, ◌∙◌}
use Rattle.af_normal.proofs.Common.{HandSide, Heard, Learnt, Report, ServerState, Setup, TrackKept, TrackSeen, after_part, heard, heard_by, noted, nothing_seen, ready, report_at, served, settled_at, slot_for, slot_number, track_at}
use Rattle.af_normal.specs.Mixing.{stream_at}
use Rattle.af_normal.specs.Serving.{Attends, AttendsAt, Serving, ServesBy, ServesOne, ServesTrack}

module _ (c : Setup) (k : Learnt) (i : ℕ) (x y : Serving) (seen : TrackSeen) (report : Report) (own : Heard) where
  abbrev s : TrackKept
  s = track_at x.tracks i

  abbrev given : Option ℕ
  given = slot_for c x.tracks i

  abbrev pub by_own : Heard
  by_own = heard_by own (report_at report.slots (slot_number s)) s

  abbrev pub made_ready : TrackKept
  made_ready = settled_at by_own.flush_seen (noted (report_at report.slots (slot_number s)) s)

  served_is : (track_at x.tracks i).life.ended ≡ false → (h : Heard) (r : TrackKept) → h ≡ heard k i s → r ≡ ready k i s → after_part given h seen.looks r ≡ served c k seen.looks x.tracks i
  unfolding served
  served_is lives h r eh er = ap (λ (d : Heard). after_part given d seen.looks r) eh ∙ ap (λ (t : TrackKept). after_part given (heard k i s) seen.looks t) er
      ∙ ap (λ (b : Bool). if b then s else after_part given (heard k i s) seen.looks (ready k i s)) (sym lives)

  pub serves_by : k.report ≡ report → k.own i ≡ own → (track_at x.tracks i).life.ended ≡ false
      → AttendsAt given by_own made_ready i x.streams x.commands x.hands seen y.streams y.commands y.hands
      → y.tracks ≡ slice_set x.tracks i (after_part given by_own seen.looks made_ready) → y.turns ≡ x.turns → ServesBy c k i seen x y
  serves_by e1 e2 lives at tracks turns =
      let eh : by_own ≡ heard k i s = (λ j. heard_by (sym e2 j) (report_at (sym e1 j).slots (slot_number s)) s) in
      let er : made_ready ≡ ready k i s = (λ j. settled_at (eh j).flush_seen (noted (report_at (sym e1 j).slots (slot_number s)) s)) in
      record {
        command = at.command;
        has_command = at.has_command;
        flag = at.flag;
        has_flag = at.has_flag;
        command' = at.command';
        stream' = at.stream';
        flag' = at.flag';
        attends = subst (λ (r : TrackKept). Attends given (heard k i s) r at.command (stream_at x.streams i) at.flag seen at.command' at.stream' at.flag') er
            (subst (λ (h : Heard). Attends given h made_ready at.command (stream_at x.streams i) at.flag seen at.command' at.stream' at.flag') eh at.attends);
        leaves = (λ j. record {
          tracks = (tracks ∙ ap (slice_set x.tracks i) (served_is lives by_own made_ready eh er)) j;
          streams = at.streams_are j;
          commands = at.commands_are j;
          hands = at.hands_are j;
          turns = turns j;
        });
      }

-- the record of a track joins the others
pub serves_track : (c : Setup) (k : Learnt) (i : ℕ) (x m y : Serving) (seen : TrackSeen) → MatchBool (track_at x.tracks i).life.ended ((m ≡ x) × (seen ≡ nothing_seen)) (ServesBy c k i seen x m)
    → y ≡ record m { turns = m.turns ++ seen ∷ [] } → ServesTrack c k i x y
serves_track c k i x m y seen by e = by_ended (track_at x.tracks i).life.ended by
  where
    by_ended : (b : Bool) → MatchBool b ((m ≡ x) × (seen ≡ nothing_seen)) (ServesBy c k i seen x m) → MatchBool b (y ≡ record x { turns = x.turns ++ nothing_seen ∷ [] }) (ServesOne c k i x y)
    by_ended true p = e ∙ (λ j. record (p.0 j) { turns = (p.0 j).turns ++ (p.1 j) ∷ [] })
    by_ended false s = record {
      command = s.command;
      has_command = s.has_command;
      flag = s.flag;
      has_flag = s.has_flag;
      seen = seen;
      command' = s.command';
      stream' = s.stream';
      flag' = s.flag';
      attends = s.attends;
      leaves = e ∙ ap (λ (w : Serving). record w { turns = w.turns ++ seen ∷ [] }) s.leaves;
    }

-- a track is served so with equal parts
pub at_same : (i : ℕ) (seen : TrackSeen) (g g' : Option ℕ) (h h' : Heard) (r r' : TrackKept) (s s' t t' : List (Option ServerState)) (c c' d d' : List ServerState) (f f' e e' : List HandSide)
    → g ≡ g' → h ≡ h' → r ≡ r' → s ≡ s' → c ≡ c' → f ≡ f' → t ≡ t' → d ≡ d' → e ≡ e'
    → AttendsAt g h r i s c f seen t d e → AttendsAt g' h' r' i s' c' f' seen t' d' e'
at_same i seen g g' h h' r r' s s' t t' c c' d d' f f' e e' pg ph pr ps pc pf pt pd pe at =
    subst (λ (w : Option ℕ × Heard × TrackKept × List (Option ServerState) × List ServerState × List HandSide × List (Option ServerState) × List ServerState × List HandSide).
    AttendsAt w.0 w.1 w.2 i w.3 w.4 w.5 seen w.6 w.7 w.8)
    (λ j. (pg j, ph j, pr j, ps j, pc j, pf j, pt j, pd j, pe j)) at
