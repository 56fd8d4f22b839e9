-- In a legal turn that finds tracks shut as `FindsShutUnseen` says, hands and the stream proxies of the tracks whose stream blocks are tame so far act as `ActsWhereMet` says.
use Rattle.std.proofs.Common.{◌≡◌, ◌⊎◌, inl, inr, ℕ, ◌<◌, ◌≤◌, nat_lt, Bool, true, false, true≢false, MatchBool, if◌then◌else◌, List, [], ◌∷◌, ◌++◌, length, map, All, refl, ap, ◌∙◌, subst, arith}
use Rattle.af_turn_law.proofs.Common.{Case, GoesOn, IsServed, Learnt, LegalTrack, LegalTurnBy, Marks, NormalKept, Outside, Run, ServerEvent, Session, Setting, Setup, Sound, TakeSeen, TrackKept, TrackSeen, Turn, TurnFound, after_ack, after_commands, after_edits, asked, at_new, cases_lt, client_list, cycle_events, either_false, first_told, flat_map, get_or_past, hand_events_of, heard, heard_by, observer_holds, invalid, is_home, is_tame, learnt, mix_events, new_normal, new_track, no_retries_left, none_and, not_yet, nothing_seen, outside_of, ready, reports, served_to, setup_of, slot_for, stream_list, takes_part, told_at, told_by_report, track_at, track_in, tracks_at, tracks_due, turn_after, welcomed, welcomed_at, with_turn, or_left}
use Rattle.af_base.specs.declared.event.HandEvent.TheVariants as hand
use Rattle.af_base.specs.declared.event.ServerEvent.TheVariants as server
use Rattle.af_life.specs.declared.track.Known.{Known}
use Rattle.af_life.specs.declared.track.Life.{Life}
use Rattle.af_turn_law.specs.Acting.{SawNoInvalid, FindsShutUnseen}
use Rattle.af_turn_law.proofs.MixedHome.{mixed_home}
use Rattle.af_turn_law.proofs.ShutHome.{is_shut_now, shut_home}

-- The stream proxy of a track does nothing in a turn; or it took part in the last meetings, and will in the next ones; or it only sets INVALID, of which the client saw nothing so far, and will take part in the next meetings
abbrev pub StreamActs : Session → Run → TurnFound → Turn → ℕ → List ServerEvent → Type 0
StreamActs s run f e n events =
    let after = takes_part s (with_turn s f e run) n in
    (events ≡ []) ⊎ (((takes_part s run n ≡ true) × (after ≡ true)) ⊎ ((events ≡ server.SetFlags 4 ∷ []) × SawNoInvalid (client_list (told_at run n).stream) × (after ≡ true)))

-- A hand does something only once it is there; and the stream proxy of a track acts as StreamActs says if the stream block is tame so far
pub record ActsWhereMet (s : Session) (run : Run) (f : TurnFound) (e : Turn) : Type 0 where
  pub hands : (n : ℕ) → (hand_events_of e n ≡ []) ⊎ (run.handed ≡ true)
  pub streams : (n : ℕ) → n < length run.tracks → is_tame (told_at run n).stream ≡ true → let o = outside_of (setup_of s) f e in StreamActs s run f e n (stream_list (setup_of s) o e (tracks_at (setup_of s) (learnt o) run.normal e n) n)

-- what is kept of the normal mixer between two rounds: before it made its hands it is new
pub record NormalReady (s : Session) (run : Run) : Type 0 where
  pub sound : Sound run.normal
  pub long : length run.normal.tracks ≡ length (setup_of s).settings
  pub new : run.handed ≡ false → run.normal ≡ new_normal (setup_of s)

-- ## No track is disabled that heard of no empty look

-- no row tells anything
abbrev AllQuiet : List Case → Known → Life → Type 0
AllQuiet [] known life = Unit {0}
AllQuiet (row ∷ rows) known life = (row.tells known life ≡ false) × AllQuiet rows known life

quiet_rows : (rows : List Case) (known : Known) (life : Life) → AllQuiet rows known life → first_told rows known life ≡ false
quiet_rows [] known life h = refl
quiet_rows (row ∷ rows) known life h = either_false (row.applies known life) (row.tells known life) (first_told rows known life) h.0 (quiet_rows rows known life h.1)

told_none : (known : Known) (life : Life) → known.empties ≡ 0 → told_by_report known life ≡ false
unfolding told_by_report
told_none known life none =
    let dry : no_retries_left known life ≡ false = none_and (nat_lt 0 known.empties) _ (ap (λ n. nat_lt 0 n) none) in
    quiet_rows reports known life (refl, (refl, (refl, (refl, (refl, (refl, (refl, (dry, (refl, (refl, (refl, tt)))))))))))

module _ (c : Setup) (k : Learnt) (e : Turn) (n : ℕ) where
  -- the tracks before the first turn, once proxies came home
  first_acked : (ack : Bool) → track_at (after_ack ack (new_normal c)).tracks n ≡ new_track
  unfolding welcomed
  first_acked true = welcomed_at (new_normal c).last (new_normal c).tracks n ∙ ap (welcomed (new_normal c).last) (at_new (length c.settings) n)
  first_acked false = at_new (length c.settings) n

  first_track : track_at (served_to c k e.tracks (after_ack e.ack (new_normal c)).tracks n) n ≡ new_track
  first_track = not_yet c k e.tracks (after_ack e.ack (new_normal c)).tracks n n (omega arith) ∙ first_acked e.ack

  first_empties : (heard k n new_track).known.empties ≡ 0
  unfolding heard_by
  first_empties = refl

  -- the first turn disables none
  first_able : LegalTrack c k (track_in e n) (served_to c k e.tracks (after_ack e.ack (new_normal c)).tracks n) n → (track_in e n).disabled ≡ false
  first_able legal =
      let given = slot_for c (served_to c k e.tracks (after_ack e.ack (new_normal c)).tracks n) n in
      let is : IsServed given (heard k n new_track) (track_in e n) (ready k n new_track) =
      subst (λ (t : TrackKept). MatchBool t.life.ended (track_in e n ≡ nothing_seen) (IsServed given (heard k n t) (track_in e n) (ready k n t))) first_track legal in
      is.disabled ∙ told_none (heard k n new_track).known (after_commands given (heard k n new_track) (track_in e n).looks (ready k n new_track)).life first_empties

-- ## The turn

part_home : (s : Session) (run : Run) (n : ℕ) → is_home (track_at run.normal.tracks n).holder ≡ true → takes_part s run n ≡ true
part_home s run n home = or_left (is_home (track_at run.normal.tracks n).holder) (observer_holds s run n) home

part_turned : (s : Session) (f : TurnFound) (e : Turn) (run : Run) (n : ℕ) → is_home (track_at (turn_after (setup_of s) (learnt (outside_of (setup_of s) f e)) run.normal e).tracks n).holder ≡ true → takes_part s (with_turn s f e run) n ≡ true
unfolding with_turn
part_turned s f e run n home = part_home s (with_turn s f e run) n home

module _ (s : Session) (marks : Marks) (run : Run) (f : TurnFound) (e : Turn) (scales : All (λ (x : Setting). x.scale ≤ 4096) (setup_of s).settings) (t : LegalTurnBy (setup_of s) marks f run.normal e) (kept : NormalReady s run) (unseen : FindsShutUnseen s run f e) where
  abbrev c : Setup
  c = setup_of s

  abbrev o : Outside
  o = outside_of c f e

  -- the rule for the fronts changes nothing of what is learnt
  same_learnt : learnt t.outside ≡ learnt o
  same_learnt = ap learnt t.found

  streams_act : (n : ℕ) → n < length run.tracks → is_tame (told_at run n).stream ≡ true → StreamActs s run f e n (stream_list c o e (tracks_at c (learnt o) run.normal e n) n)
  streams_act n low tame = by_end e.ended refl
    where
      tracks : List TrackKept
      tracks = tracks_at c (learnt o) run.normal e n

      home : Bool
      home = is_home (track_at tracks n).holder

      shut : Bool
      shut = is_shut_now (learnt o) (track_in e n) tracks n

      mixes : List ServerEvent
      mixes = mix_events c o e.mixes n

      -- a stream proxy takes part after the turn if it is home and found shut
      takes_after : e.ended ≡ false → home ≡ true → shut ≡ true → takes_part s (with_turn s f e run) n ≡ true
      takes_after runs here found =
          part_turned s f e run n (shut_home c (learnt o) run.normal e n kept.sound runs (λ inside. subst (λ k. LegalTrack c k (track_in e n) (tracks_at c k run.normal e n) n) same_learnt ((t.legal.goes_on runs).tracks n inside)) here found)

      by_shut : e.ended ≡ false → home ≡ true → mixes ≡ [] → (b : Bool) → shut ≡ b → ((if b then server.SetFlags 4 ∷ [] else []) ≡ []) ⊎ ((takes_part s run n ≡ true) ⊎ SawNoInvalid (client_list (told_at run n).stream))
          → StreamActs s run f e n ((if b then server.SetFlags 4 ∷ [] else []) ++ mixes)
      by_shut runs here nothing false found finds = inl nothing
      by_shut runs here nothing true found (inl none) = absurd (let z : ⊥ = (let n : length (server.SetFlags 4 ∷ []) ≡ 0 = ap length none in omega (arith, n)) in z)
      by_shut runs here nothing true found (inr (inl part)) = inr (inl (part, takes_after runs here found))
      by_shut runs here nothing true found (inr (inr saw)) = inr (inr (ap (λ es. server.SetFlags 4 ∷ es) nothing, saw, takes_after runs here found))

      -- a stream proxy does no more than INVALID if nothing was taken
      still : e.ended ≡ false → mixes ≡ [] → (b : Bool) → home ≡ b → StreamActs s run f e n ((if b then invalid (learnt o) (track_in e n) tracks n else []) ++ mixes)
      still runs nothing false here = inl nothing
      still runs nothing true here = by_shut runs here nothing shut refl (unseen runs n low tame here)

      by_end : (b : Bool) → e.ended ≡ b → StreamActs s run f e n (if b then [] else ((if home then invalid (learnt o) (track_in e n) tracks n else []) ++ mixes))
      by_end true is = inl refl
      by_end false is =
          let due : map (λ (take : TakeSeen). take.track) e.mixes ≡ tracks_due c e.room (after_edits c (learnt o) e run.normal).tracks =
          (t.legal.goes_on is).due ∙ ap (λ k. tracks_due c e.room (after_edits c k e run.normal).tracks) same_learnt in
          elim (mixed_home c scales (learnt o) run.normal e n (let l = kept.long in omega (arith, l)) kept.sound is due) [
            | inl nothing ↦ still is (ap (flat_map (λ (take : TakeSeen). cycle_events (asked c) (o.streams n) take.slot (o.stream_front n))) nothing) home refl
            | inr both ↦ inr (inl (part_home s run n both.0, part_turned s f e run n both.1))
          ]

  hands_act : (n : ℕ) → (hand_events_of e n ≡ []) ⊎ (run.handed ≡ true)
  hands_act n = by_hand run.handed refl
    where
      by_disabled : (b : Bool) → b ≡ false → (if b then hand.SetFlags 8 ∷ [] else []) ≡ []
      by_disabled true is = absurd (true≢false is)
      by_disabled false is = refl

      able : run.normal ≡ new_normal c → e.ended ≡ false → (track_in e n).disabled ≡ false
      able new is = elim (cases_lt n (length run.normal.tracks)) [
        | inl low ↦ (let g : GoesOn c t.outside (new_normal c) e = subst (λ (m : NormalKept). GoesOn c t.outside m e) new (t.legal.goes_on is) in
            first_able c (learnt t.outside) e n (g.tracks n (subst (λ (m : NormalKept). n < length m.tracks) new low)))
        | inr high ↦ ap (λ (seen : TrackSeen). seen.disabled) (get_or_past e.tracks n nothing_seen (let w = (t.legal.goes_on is).whole in omega (arith, w, high)))
      ]

      by_end : (b : Bool) → e.ended ≡ b → run.normal ≡ new_normal c → (if b then [] else (if (track_in e n).disabled then hand.SetFlags 8 ∷ [] else [])) ≡ []
      by_end true is new = refl
      by_end false is new = by_disabled (track_in e n).disabled (able new is)

      by_hand : (b : Bool) → run.handed ≡ b → (hand_events_of e n ≡ []) ⊎ (run.handed ≡ true)
      by_hand true is = inr is
      by_hand false is = inl (by_end e.ended refl (kept.new is))

  pub acts : ActsWhereMet s run f e
  acts = record { hands = hands_act; streams = streams_act }
