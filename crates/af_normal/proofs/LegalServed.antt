-- From the chain of serving all tracks to the definition's, track by track.
use Rattle.std.proofs.Common.{◌≡◌, ◌≢◌, ℕ, zero, suc, ◌<◌, ◌≤◌, ◌&&◌, not, Bool, true, false, if◌then◌else◌, true≢false, MatchBool, sym, refl, ap, subst, ◌∙◌, List, [], ◌∷◌, ◌++◌, append-nil, length, length-append, length-set, Option, Some, None, ⊎_elim, get_or-set_same, get_or-set_other, arith}
use Rattle.af_normal.proofs.Common.{CommandLook, HandSide, Learnt, LegalLooks, LegalTrack, ServerEvent, ServerState, Setup, TrackKept, TrackSeen, all_command_events, by_test, cases_eq, get_set_other, get_set_same, heard, invalid, is_found_shut, listed, nothing_seen, seen_at, served, served_to, set-get_or, slice_get, slice_get_within, slice_set, status_events, track_at, with_served, words_taken}
use Rattle.af_base.specs.declared.event.ServerEvent.TheVariants as server
use Rattle.af_normal.proofs.Cases.{on_false, on_true}
use Rattle.af_normal.proofs.LegalLists.{upd, upd_same, upd_other}
use Rattle.af_normal.specs.Mixing.{stream_at}
use Rattle.af_normal.specs.Serving.{Adds, StreamAdds, HandAdds, Recalls, Serving, ServesOne, ServesTrack, ServesTo, disabled_events, shut_events}

-- ## Lists

seen_before : (turns : List TrackSeen) (s : TrackSeen) (j : ℕ) → j < length turns → seen_at (turns ++ s ∷ []) j ≡ seen_at turns j
seen_before [] s j lt = absurd (omega arith)
seen_before (t ∷ turns) s zero lt = refl
seen_before (t ∷ turns) s (suc j) lt = seen_before turns s j (omega arith)

seen_new : (turns : List TrackSeen) (s : TrackSeen) (j : ℕ) → length turns ≡ j → seen_at (turns ++ s ∷ []) j ≡ s
seen_new [] s zero e = refl
seen_new [] s (suc j) e = absurd (omega arith)
seen_new (t ∷ turns) s zero e = absurd (omega arith)
seen_new (t ∷ turns) s (suc j) e = seen_new turns s j (omega arith)

-- ## What a track's part comes to

-- the events of the two servers and of the hand of the track j, served by what those before it left
pub record Part (c : Setup) (k : Learnt) (x z : Serving) (j : ℕ) (fronts : List ℕ) (seen : TrackSeen) (tracks : List TrackKept) : Type 0 where
  pub legal : LegalTrack c k seen tracks j
  pub command : ServerState
  pub has_command : slice_get x.commands j ≡ Some command
  pub command' : ServerState
  pub has_command' : slice_get z.commands j ≡ Some command'
  pub looks : LegalLooks (listed command) seen.looks fronts
  pub commanded : Adds command (all_command_events (listed command) seen.looks fronts ++ invalid k seen tracks j ++ status_events seen.status) (words_taken seen.looks) command'
  pub whole : command'.pass.has_hand ≡ command.pass.has_hand
  pub flag : HandSide
  pub has_flag : slice_get x.hands j ≡ Some flag
  pub flag' : HandSide
  pub has_flag' : slice_get z.hands j ≡ Some flag'
  pub disabled : HandAdds flag (disabled_events seen.disabled) flag'
  pub streamed : StreamAdds (stream_at x.streams j) (invalid k seen tracks j) (stream_at z.streams j)
  pub recalled : Recalls (stream_at x.streams j) (invalid k seen tracks j) flag

-- the proxies and the hand of the track j are as they were
pub record Untouched (x z : Serving) (j : ℕ) : Type 0 where
  pub command : slice_get z.commands j ≡ slice_get x.commands j
  pub flag : slice_get z.hands j ≡ slice_get x.hands j
  pub stream : stream_at z.streams j ≡ stream_at x.streams j

-- a part stays while other tracks are served
still_part : (c : Setup) (k : Learnt) (x z y : Serving) (j : ℕ) (fronts : List ℕ) (seen : TrackSeen) (tracks : List TrackKept) → Untouched z y j → Part c k x z j fronts seen tracks → Part c k x y j fronts seen tracks
still_part c k x z y j fronts seen tracks u p = record {
  legal = p.legal;
  command = p.command;
  has_command = p.has_command;
  command' = p.command';
  has_command' = u.command ∙ p.has_command';
  looks = p.looks;
  commanded = p.commanded;
  whole = p.whole;
  flag = p.flag;
  has_flag = p.has_flag;
  flag' = p.flag';
  has_flag' = u.flag ∙ p.has_flag';
  disabled = p.disabled;
  streamed = subst (StreamAdds (stream_at x.streams j) (invalid k seen tracks j)) (sym u.stream) p.streamed;
  recalled = p.recalled;
}

module _ (c : Setup) (k : Learnt) where
  -- serving the first tracks reads no more of the list of turns
  prefix : (turns : List TrackSeen) (s : TrackSeen) (tracks : List TrackKept) (i : ℕ) → i ≤ length turns → served_to c k (turns ++ s ∷ []) tracks i ≡ served_to c k turns tracks i
  prefix turns s tracks zero le = refl
  prefix turns s tracks (suc i) le = ap (with_served c k (turns ++ s ∷ []) i) (prefix turns s tracks i (omega arith))
      ∙ ap (λ (e : TrackSeen). slice_set (served_to c k turns tracks i) i (served c k e.looks (served_to c k turns tracks i) i)) (seen_before turns s i (omega arith))

  -- a track that had ended is served by nothing
  served_ended : (looks : List CommandLook) (tracks : List TrackKept) (i : ℕ) → (track_at tracks i).life.ended ≡ true → served c k looks tracks i ≡ track_at tracks i
  unfolding served
  served_ended looks tracks i e = by_test (λ (s : TrackKept). s ≡ track_at tracks i) (track_at tracks i).life.ended _ _ (λ h. refl) (λ h. absurd (true≢false (sym e ∙ h)))

  -- the first i tracks had their parts
  pub record ServedTo (n : ℕ) (x z : Serving) (i : ℕ) : Type 0 where
    pub count : length z.turns ≡ i
    pub tracks : z.tracks ≡ served_to c k z.turns x.tracks i
    pub fronts : ℕ → List ℕ
    pub parts : (j : ℕ) → j < i → Part c k x z j (fronts j) (seen_at z.turns j) (served_to c k z.turns x.tracks j)
    pub rest : (j : ℕ) → i ≤ j → Untouched x z j
    pub long : (length z.streams ≡ length x.streams) × (length z.commands ≡ length x.commands) × (length z.hands ≡ length x.hands)

  -- the parts of each track of a mixer are there
  pub record AreAll (n : ℕ) (x : Serving) : Type 0 where
    pub streams : n ≤ length x.streams
    pub commands : (j : ℕ) → j < n → (s : ServerState) × (slice_get x.commands j ≡ Some s)
    pub hands : (j : ℕ) → j < n → (h : HandSide) × (slice_get x.hands j ≡ Some h)

  module _ (n : ℕ) (x : Serving) (all : AreAll n x) where
    module _ (i : ℕ) (lt : i < n) (z : Serving) (before : ServedTo n x z i) where
      -- a record that is joined to the list: what was seen of the tracks before it stays
      module _ (seen : TrackSeen) (y : Serving) (turns_are : y.turns ≡ z.turns ++ seen ∷ []) where
        to_same : (j : ℕ) → j ≤ i → served_to c k y.turns x.tracks j ≡ served_to c k z.turns x.tracks j
        to_same j le = ap (λ (ts : List TrackSeen). served_to c k ts x.tracks j) turns_are ∙ prefix z.turns seen x.tracks j (let l = before.count in omega arith)

        seen_same : (j : ℕ) → j < i → seen_at y.turns j ≡ seen_at z.turns j
        seen_same j lj = ap (λ (ts : List TrackSeen). seen_at ts j) turns_are ∙ seen_before z.turns seen j (let l = before.count in omega arith)

        seen_last : seen_at y.turns i ≡ seen
        seen_last = ap (λ (ts : List TrackSeen). seen_at ts i) turns_are ∙ seen_new z.turns seen i before.count

        joined : (fronts : List ℕ) → (y.tracks ≡ slice_set z.tracks i (served c k seen.looks z.tracks i)) → Part c k x y i fronts seen z.tracks → ((j : ℕ) → j ≢ i → Untouched z y j)
            → (length y.streams ≡ length z.streams) × (length y.commands ≡ length z.commands) × (length y.hands ≡ length z.hands) → ServedTo n x y (suc i)
        joined fronts tracks part others long = record {
          count = ap length turns_are ∙ length-append z.turns (seen ∷ []) ∙ (let l = before.count in omega arith);
          tracks = tracks
              ∙ ap (λ (ts : List TrackKept). slice_set ts i (served c k seen.looks ts i)) (before.tracks ∙ sym (to_same i (omega arith)))
              ∙ ap (λ (e : TrackSeen). slice_set (served_to c k y.turns x.tracks i) i (served c k e.looks (served_to c k y.turns x.tracks i) i)) (sym seen_last);
          fronts = upd before.fronts i fronts;
          parts = (λ j lj. ⊎_elim
              (λ (e : j ≡ i). subst (λ (m : ℕ). Part c k x y m (upd before.fronts i fronts m) (seen_at y.turns m) (served_to c k y.turns x.tracks m)) (sym e)
              (subst (λ (p : List ℕ × TrackSeen × List TrackKept). Part c k x y i p.0 p.1 p.2) (λ d. (sym (upd_same before.fronts i fronts) d, sym seen_last d, (before.tracks ∙ sym (to_same i (omega arith))) d)) part))
              (λ (ne : j ≢ i). subst (λ (p : List ℕ × TrackSeen × List TrackKept). Part c k x y j p.0 p.1 p.2) (λ d. (sym (upd_other before.fronts i fronts j ne) d, sym (seen_same j (omega arith)) d, sym (to_same j (omega arith)) d))
              (still_part c k x z y j (before.fronts j) (seen_at z.turns j) (served_to c k z.turns x.tracks j) (others j ne) (before.parts j (omega arith))))
              (cases_eq j i));
          rest = (λ j le. let u : Untouched z y j = others j (λ e. omega arith) in let w : Untouched x z j = before.rest j (omega arith) in
              record { command = u.command ∙ w.command; flag = u.flag ∙ w.flag; stream = u.stream ∙ w.stream });
          long = (long.0 ∙ before.long.0, long.1 ∙ before.long.1, long.2 ∙ before.long.2);
        }

      -- ## A track that had ended

      none_found : (seen : TrackSeen) (tracks : List TrackKept) (j : ℕ) → (track_at tracks j).life.ended ≡ true → invalid k seen tracks j ≡ []
      none_found seen tracks j e = by_ended (track_at tracks j).life.ended (is_found_shut (heard k j (track_at tracks j)) seen.looks) e
        where
          by_ended : (b d : Bool) → b ≡ true → (if not b && d then server.SetFlags 4 ∷ [] else []) ≡ []
          by_ended true d f = refl
          by_ended false d f = absurd (true≢false (sym f))

      adds_none : (s : ServerState) (events : List ServerEvent) → events ≡ [] → Adds s events [] s
      adds_none s events e = record { list = sym (append-nil s.pass.part.events) ∙ ap (λ (es : List ServerEvent). s.pass.part.events ++ es) (sym e); took = sym (append-nil s.pass.part.frames); shape = refl }

      stream_none : (o : Option ServerState) (events : List ServerEvent) → events ≡ [] → StreamAdds o events o
      stream_none None events e = refl
      stream_none (Some s) events e = (s, adds_none s events e, refl)

      passed : (y : Serving) → (track_at z.tracks i).life.ended ≡ true → y ≡ record z { turns = z.turns ++ nothing_seen ∷ [] } → ServedTo n x y (suc i)
      passed y ended is = subst (λ (w : Serving). ServedTo n x w (suc i)) (sym is) (joined nothing_seen (record z { turns = z.turns ++ nothing_seen ∷ [] }) refl []
          (sym (set-get_or z.tracks i _) ∙ ap (slice_set z.tracks i) (sym (served_ended [] z.tracks i ended)))
          part (λ j ne. record { command = refl; flag = refl; stream = refl }) (refl, refl, refl))
        where
          u : Untouched x z i
          u = before.rest i (omega arith)

          none : invalid k nothing_seen z.tracks i ≡ []
          none = none_found nothing_seen z.tracks i ended

          part : Part c k x (record z { turns = z.turns ++ nothing_seen ∷ [] }) i [] nothing_seen z.tracks
          part = let command = all.commands i lt in let flag = all.hands i lt in record {
            legal = on_true (track_at z.tracks i).life.ended _ _ ended refl;
            command = command.0;
            has_command = command.1;
            command' = command.0;
            has_command' = u.command ∙ command.1;
            looks = tt;
            commanded = adds_none command.0 (invalid k nothing_seen z.tracks i ++ []) (ap (λ (es : List ServerEvent). es ++ []) none);
            whole = refl;
            flag = flag.0;
            has_flag = flag.1;
            flag' = flag.0;
            has_flag' = u.flag ∙ flag.1;
            disabled = record { list = sym (append-nil flag.0.part.events); shape = refl; known = refl };
            streamed = subst (StreamAdds (stream_at x.streams i) (invalid k nothing_seen z.tracks i)) (sym u.stream) (stream_none (stream_at x.streams i) (invalid k nothing_seen z.tracks i) none);
            recalled = (λ s is some. absurd (some none));
          }

      -- ## One that had not

      found_is : (seen : TrackSeen) → (track_at z.tracks i).life.ended ≡ false → shut_events (is_found_shut (heard k i (track_at z.tracks i)) seen.looks) ≡ invalid k seen z.tracks i
      found_is seen lives = by_ended (track_at z.tracks i).life.ended (is_found_shut (heard k i (track_at z.tracks i)) seen.looks) lives
        where
          by_ended : (b d : Bool) → b ≡ false → shut_events d ≡ (if not b && d then server.SetFlags 4 ∷ [] else [])
          by_ended true d f = absurd (true≢false f)
          by_ended false d f = refl

      -- what serving the stream proxy leaves
      abbrev after : TrackSeen → ServerState → Option ServerState → HandSide → Serving
      after seen command stream flag = record {
        tracks = slice_set z.tracks i (served c k seen.looks z.tracks i);
        streams = slice_set z.streams i stream;
        commands = slice_set z.commands i command;
        hands = slice_set z.hands i flag;
        turns = z.turns ++ seen ∷ [];
      }

      went : (y : Serving) → (track_at z.tracks i).life.ended ≡ false → ServesOne c k i z y → ServedTo n x y (suc i)
      went y lives s = subst (λ (v : Serving). ServedTo n x v (suc i)) (sym s.leaves) (joined s.seen (after s.seen s.command' s.stream' s.flag') refl s.attends.fronts refl part
          (λ j ne. record { command = get_set_other z.commands i j s.command' ne; flag = get_set_other z.hands i j s.flag' ne; stream = get_or-set_other z.streams i j s.stream' None ne })
          (length-set z.streams i s.stream', length-set z.commands i s.command', length-set z.hands i s.flag'))
        where
          u : Untouched x z i
          u = before.rest i (omega arith)

          wide : i < length z.streams
          wide = let l = before.long.0 in let a = all.streams in omega arith

          part : Part c k x (after s.seen s.command' s.stream' s.flag') i s.attends.fronts s.seen z.tracks
          part = record {
            legal = on_false (track_at z.tracks i).life.ended _ _ lives s.attends.legal;
            command = s.command;
            has_command = sym u.command ∙ s.has_command;
            command' = s.command';
            has_command' = get_set_same z.commands i s.command' (slice_get_within z.commands i s.command s.has_command);
            looks = s.attends.looks;
            commanded = subst (λ (es : List ServerEvent). Adds s.command (all_command_events (listed s.command) s.seen.looks s.attends.fronts ++ es ++ status_events s.seen.status) (words_taken s.seen.looks) s.command') (found_is s.seen lives) s.attends.commanded;
            whole = s.attends.whole;
            flag = s.flag;
            has_flag = sym u.flag ∙ s.has_flag;
            flag' = s.flag';
            has_flag' = get_set_same z.hands i s.flag' (slice_get_within z.hands i s.flag s.has_flag);
            disabled = s.attends.disabled;
            streamed = subst (λ (p : Option ServerState × List ServerEvent × Option ServerState). StreamAdds p.0 p.1 p.2) (λ d. (u.stream d, found_is s.seen lives d, sym (get_or-set_same z.streams i s.stream' None wide) d)) s.attends.streamed;
            recalled = subst (λ (p : Option ServerState × List ServerEvent). Recalls p.0 p.1 s.flag) (λ d. (u.stream d, found_is s.seen lives d)) s.attends.recalled;
          }

      pub next : (y : Serving) → ServesTrack c k i z y → ServedTo n x y (suc i)
      next y serves = by_ended (track_at z.tracks i).life.ended refl serves
        where
          by_ended : (b : Bool) → (track_at z.tracks i).life.ended ≡ b → MatchBool b (y ≡ record z { turns = z.turns ++ nothing_seen ∷ [] }) (ServesOne c k i z y) → ServedTo n x y (suc i)
          by_ended true e h = passed y e h
          by_ended false e h = went y e h

    -- the first tracks had their parts
    pub served_all : (none : x.turns ≡ []) (i : ℕ) → i ≤ n → (y : Serving) → ServesTo c k i x y → ServedTo n x y i
    served_all none zero le y is = record {
      count = ap (λ (z : Serving). length z.turns) is ∙ ap length none;
      tracks = ap (λ (z : Serving). z.tracks) is;
      fronts = (λ j. []);
      parts = (λ j lj. absurd (omega arith));
      rest = (λ j l. record { command = ap (λ (z : Serving). slice_get z.commands j) is; flag = ap (λ (z : Serving). slice_get z.hands j) is; stream = ap (λ (z : Serving). stream_at z.streams j) is });
      long = (ap (λ (z : Serving). length z.streams) is, ap (λ (z : Serving). length z.commands) is, ap (λ (z : Serving). length z.hands) is);
    }
    served_all none (suc i) le y (z, before, serves) = next i (omega arith) z (served_all none i (omega arith) z before) y serves
