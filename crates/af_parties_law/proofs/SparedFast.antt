-- Each round of a render leaves the fast mixer's log sparing the tracks whose clients have not poked.
use Rattle.std.proofs.Common.{◌≡◌, ◌≢◌, ℕ, ◌+◌, ◌<◌, ◌≤◌, ◌==◌, inl, ⊎_elim, Bool, true, false, true≢false, MatchBool, if◌then◌else◌, is_some, fold, List, [], ◌∷◌, ◌++◌, length, map, slice_get, slice_set, Option, Some, None, refl, sym, ap, subst, ◌∙◌, eq-eqb, arith}
use Rattle.af_parties_law.proofs.Common.{AreTogether, ClientCall, ClientState, CycleEntry, FastState, Given, HandSide, IsFastTurn, IsInOrder, IsNewSession, IsRound, Links, Made, MeetsAway, MeetsStream, Met, MixerState, NormalKept, NormalState, NormalTurned, PartyState, RoundNoted, ScriptData, ServerState, SessionState, SharedState, Shown, Spot, SpotMet, Track, Turn, TurnSpec, after_call, after_calls, and_from, and_parts, at, called, carries, cases_eq, client_made, eqb-true, fast_round, file_at, get_set_other, get_set_same, is_home, is_lawful, is_of_commands, is_slot_of, item_at, kept_of, last_used, lawful_first, list_all, none-some, normal_round, only_slot, ops_at, polled_states, proxies_of, same_Some, server_kept_of, shown_met, shows, slice_get_within, slot_for, slot_number, slot_of, slots, spot_of, still_round, stream_at, track_at, track_of, use_of, with_ends}
use Rattle.af_model.specs.Cycles.{UseUpTo}
use Rattle.af_render_law.proofs.BetweenRounds.{client_stands, normal_stands, same_fast, stands_after, still_stands}
use Rattle.af_runs.specs.ClientTurns.{released_by}
use Rattle.af_script.specs.declared.op.TurnSpec.TheVariants as spec
use Rattle.af_server.specs.Order.{IsInOrder as IsServerInOrder}
use Rattle.af_session.proofs.FastAdds.{whole_new}
use Rattle.af_tally.specs.Sound.{IsWhole}
use Rattle.af_told_law.proofs.FirstSteps.{stands_first}
use Rattle.af_told_law.proofs.MetOpen.{clients_ended, clients_met, open_met_all}
use Rattle.af_told_law.specs.Between.{IsQuiet, StandsBetween}
use Rattle.af_told_law.specs.Leads.{LeadAway, LeadLent}
use Rattle.af_parties_law.specs.Hostile.{is_spared_in_entry}
use Rattle.af_parties_law.proofs.EntrySpared.{AreUnshut}
use Rattle.af_parties_law.proofs.Meeting.{client_before}
use Rattle.af_parties_law.proofs.OpenCalls.{AreTame, IsTame}
use Rattle.af_parties_law.proofs.SparedCycles.{FreeAt, FreeIf, Goes, entries_at, turn_goes}

-- the entries of a log name only states that were polled
abbrev pub IsUsed : MixerState → Type 0
IsUsed m = (first : FastState) → (last_used m.log.entries ≤ length (polled_states first m.observer.past.events)) × UseUpTo (last_used m.log.entries) m.log.entries

used_by : (m : MixerState) → IsInOrder m → IsUsed m
used_by m order first = let low = order.uses.low in (omega (arith, order.observer.told.counted first), order.uses.used)

-- Between two rounds: the entries spare each track whose client's lists hold no poke, the ends of the queue are in step, and the log is whole
pub record FastSparesSoFar (s : SessionState) : Type 0 where
  pub free : FreeAt s
  pub stands : StandsBetween s
  pub whole : IsWhole s.fast.log
  pub used : IsUsed s.fast

-- the entries of a log, each with the state that it used
pub entries_are : (first : FastState) (m : MixerState) → entries_at first m ≡ map (use_of (polled_states first m.observer.past.events)) m.log.entries
unfolding shows
entries_are first m = refl

-- ## At the start

module _ (script : ScriptData) (shared : SharedState) (s : SessionState) (new : IsNewSession script shared s) where
  none : s.fast.log.entries ≡ []
  none = ap (λ (m : MixerState). m.log.entries) new.fast

  pub fast_first : FastSparesSoFar s
  fast_first = record {
    free = (λ i p is tame first. ap (list_all (is_spared_in_entry i)) (entries_are first s.fast)
        ∙ ap (λ (es : List CycleEntry). list_all (is_spared_in_entry i) (map (use_of (polled_states first s.fast.observer.past.events)) es)) none);
    stands = stands_first script shared s new;
    whole = whole_new s.fast.log none;
    used = (λ first. subst (λ (es : List CycleEntry). (last_used es ≤ length (polled_states first s.fast.observer.past.events)) × UseUpTo (last_used es) es) (sym none) (omega arith, tt));
  }

-- ## The calls of a client

module _ (t : Track) (answer : ClientCall) where
  before_by : (b : Bool) → AreTame (if b then record t { commands = called answer (released_by t answer) t.commands } else record t { stream = called answer (released_by t answer) t.stream }) → AreTame t
  before_by true tame = (tame.0, lawful_first t.commands.events _ tame.1)
  before_by false tame = (lawful_first t.stream.events _ tame.0, tame.1)

tame_before : (t : Track) (calls : List ClientCall) → AreTame (fold after_call t calls) → AreTame t
tame_before t [] tame = tame
tame_before t (answer ∷ calls) tame = let rest = tame_before (after_call t answer) calls tame in before_by t answer (is_of_commands answer) (rest.0, rest.1)

-- ## The meetings and ends of a round

module _ (links : Links) (turned met t : SessionState) (meets : Met turned met) (ends : t ≡ with_ends met) (together : AreTogether links met) where
  abbrev fast_kept : t.fast ≡ met.fast
  fast_kept = same_fast turned met t meets ends together.fast.0

  whole_after : IsWhole turned.fast.log → IsWhole t.fast.log
  whole_after whole = subst IsWhole (sym (ap (λ (m : MixerState). m.log) (fast_kept ∙ meets.ends.fast))) whole

  used_after : IsUsed t.fast
  used_after = subst IsUsed (sym fast_kept) (used_by met.fast together.fast.0)

  module _ (order : IsInOrder turned.fast) where
    entries_after : (first : FastState) → entries_at first t.fast ≡ entries_at first turned.fast
    entries_after first = ap (entries_at first) fast_kept ∙ ap (λ (run : Shown). run.entries) (shown_met first 0 [] turned met order meets)

    free_after : FreeAt turned → FreeAt t
    free_after free i q is tame first =
        let was = client_before links turned met t meets ends together i q is in
        ap (list_all (is_spared_in_entry i)) (entries_after first) ∙ free i was.0 was.1 (was.2 tame) first

  -- ## The proxies held for a track
  module _ (away : LeadAway turned.fast.observer.past.state turned.normal.tracks) (i : ℕ) (q : PartyState) (is : slice_get t.clients i ≡ Some q) (p : PartyState) (was : slice_get turned.clients i ≡ Some p) (tame : IsTame p) where
    abbrev x : FastState
    x = turned.fast.observer.past.state

    abbrev before : Spot
    before = spot_of x (proxies_of turned.normal turned.fast) i

    abbrev later : Spot
    later = spot_of x (proxies_of met.normal met.fast) i

    module _ (k : ℕ) (lt : k < slots) (on : carries x k ≡ true) (track : (slot_of x k).track ≡ i) (s : ServerState) (held : at turned.fast.observer.items k ≡ Some s) where
      of_track : (j : ℕ) → is_slot_of x i j ≡ true → (carries x j ≡ true) × ((slot_of x j).track ≡ i)
      of_track j here = let parts = and_parts (carries x j) ((slot_of x j).track == i) here in (parts.0, eqb-true (slot_of x j).track i parts.1)

      number : (j : ℕ) → j < slots → carries x j ≡ true → (slot_of x j).track ≡ i → slot_number (track_at turned.normal.tracks i) ≡ j
      number j below carried its = ap (λ (z : ℕ). slot_number (track_at turned.normal.tracks z)) (sym its) ∙ (away j below carried).1

      found : slot_for x i ≡ Some k
      found = only_slot x i k lt (and_from (carries x k) ((slot_of x k).track == i) on (eq-eqb (slot_of x k).track i track))
          (λ j below here. let its = of_track j here in sym (number j below its.0 its.1) ∙ number k lt on track)

      -- the proxy held for the track isn't home
      gone : is_some (stream_at met.normal.streams i) ≡ false
      gone =
          let ended = clients_ended met i q (ap (λ (y : SessionState). slice_get y.clients i) (sym ends) ∙ is) in
          let inside : i < length met.normal.tracks = omega (arith, slice_get_within met.clients i ended.0 ended.1, together.count) in
          together.normal.tied.proxies.there i inside
          ∙ ap (λ (m : NormalState). is_home (track_at m.tracks i).holder) meets.ends.normal
          ∙ ap (λ (z : ℕ). is_home (track_at turned.normal.tracks z).holder) (sym track)
          ∙ (away k lt on).0

      in_order : (u : ServerState) → later.held ≡ Some u → IsServerInOrder u
      in_order u here =
          let names = together.fast.1.names in
          (together.fast.0.observer.fit names.0 names.1 k u lt (sym (ap (item_at met.fast.observer.items) found) ∙ here)).in_order

      by_away : (block : Made) (o : Option ServerState) (h g' : HandSide) (c d : ClientState) → o ≡ Some s → is_lawful c.pass.part.events ≡ true → MeetsAway block o h c later.held g' d → (server_kept_of s.pass.part).shut ≡ None
      by_away block None h g' c d is_s lawful m = absurd (none-some s is_s)
      by_away block (Some u) h g' c d is_s lawful m =
          ap (λ (z : ServerState). (server_kept_of z.pass.part).shut) (sym (same_Some u s is_s)) ∙ open_met_all block u m.0 c d h g' m.2 (in_order m.0 m.1) lawful

      by_home : (block : Made) (u : ServerState) (c d : ClientState) (h : Option HandSide) → MeetsStream block (Some u) h c later.stream later.hand d → is_some later.stream ≡ true
      by_home block u c d None m = ap is_some m.1
      by_home block u c d (Some h) m = ap is_some m.2

      by_stream : (block : Made) (o : Option ServerState) (c d : ClientState) → is_lawful c.pass.part.events ≡ true → SpotMet block o before c later d → (server_kept_of s.pass.part).shut ≡ None
      by_stream block None c d lawful m = by_away block before.held m.hand m.hand' c d (ap (item_at turned.fast.observer.items) found ∙ held) lawful m.met
      by_stream block (Some u) c d lawful m = absurd (true≢false (sym (by_home block u c d before.hand m.0) ∙ gone))

      held_unshut : (server_kept_of s.pass.part).shut ≡ None
      held_unshut =
          let ended = clients_ended met i q (ap (λ (y : SessionState). slice_get y.clients i) (sym ends) ∙ is) in
          let track' = clients_met turned met meets i ended.0 ended.1 in
          let same : track'.0 ≡ p = same_Some track'.0 p (sym track'.1 ∙ was) in
          by_stream (client_made track'.0.stream.pass) before.stream track'.0.stream ended.0.stream (ap (λ (y : PartyState). is_lawful y.stream.pass.part.events) same ∙ tame.0) track'.2.streamed

    unshut_closed : AreUnshut i turned.fast
    unshut_closed k s lt on track held = held_unshut k lt on track s held

  -- if `Goes` holds after the turn, the tracks are spared after the round
  closes : IsInOrder turned.fast → Goes (kept_of turned.normal) turned → FreeAt t
  closes order goes = ⊎_elim (λ (free : FreeAt turned). free_after order free)
      (λ (h : (turned.fast.observer.past.number ≡ turned.normal.mutator.past.number) × FreeIf turned). λ i q is tame first.
      let was = client_before links turned met t meets ends together i q is in
      ap (list_all (is_spared_in_entry i)) (entries_after order first) ∙ h.1 i was.0 was.1 (was.2 tame) (unshut_closed goes.between.state i q is was.0 was.1 (was.2 tame)) first)
      goes.spares

-- ## A whole round

module _ (g : Given) (s t : SessionState) (bytes : List ℕ) (so_far : FastSparesSoFar s) where
  -- a round in which the fast mixer did nothing, by clients that had poked before it if they hold pokes
  module _ (turn : TurnSpec) (r : RoundNoted) (round : IsRound g turn s r bytes t) (fast : round.turned.fast ≡ s.fast) (stands : StandsBetween t)
      (clients : (i : ℕ) (q : PartyState) → slice_get round.turned.clients i ≡ Some q → (p : PartyState) × (slice_get s.clients i ≡ Some p) × (IsTame q → IsTame p)) where
    free_turned : FreeAt round.turned
    free_turned i q is tame first = let was = clients i q is in
        ap (λ (m : MixerState). list_all (is_spared_in_entry i) (entries_at first m)) fast ∙ so_far.free i was.0 was.1 (was.2 tame) first

    still_spares : FastSparesSoFar t
    still_spares = let w = round.together in record {
      free = free_after w.links round.turned round.met t round.meets round.ends w.met w.turned.fast.0 free_turned;
      stands = stands;
      whole = whole_after w.links round.turned round.met t round.meets round.ends w.met (subst (λ (m : MixerState). IsWhole m.log) (sym fast) so_far.whole);
      used = used_after w.links round.turned round.met t round.meets round.ends w.met;
    }

  client_fast : (j : ℕ) (r : RoundNoted) → IsRound g (spec.Client j) s r bytes t → FastSparesSoFar t
  client_fast j r round =
      let one = round.turns.3 in
      let calls = round.turns.1 in
      let lt : j < length s.clients = slice_get_within s.clients j one.before one.was in
      let clients : round.turned.clients ≡ slice_set s.clients j one.after = ap (λ (x : SessionState). x.clients) one.leaves in
      let at_j : slice_get round.turned.clients j ≡ Some one.after = ap (λ (cs : List PartyState). slice_get cs j) clients ∙ get_set_same s.clients j one.after lt in
      let first : Track = track_of (ops_at g j) (file_at g j) one.before in
      still_spares (spec.Client j) r round (ap (λ (x : SessionState). x.fast) one.leaves) (client_stands g s r bytes t so_far.stands j round)
      (λ i q is. ⊎_elim
      (λ (e : i ≡ j).
      let same : q ≡ one.after = same_Some q one.after (sym is ∙ ap (slice_get round.turned.clients) e ∙ at_j) in (
        one.before,
        ap (slice_get s.clients) e ∙ one.was,
        λ tame.
            let tame_after : IsTame one.after = subst IsTame same tame in
            let all : AreTame (after_calls first calls) = subst AreTame one.turned (tame_after.0, tame_after.1) in
            let was : AreTame first = tame_before first calls (all.0, all.1) in (was.0, was.1),
      ))
      (λ (ne : i ≢ j). (q, sym (get_set_other s.clients j i one.after ne) ∙ ap (λ (cs : List PartyState). slice_get cs i) (sym clients) ∙ is, λ tame. tame))
      (cases_eq i j))

  normal_fast : (r : RoundNoted) (round : IsRound g spec.Normal s r bytes t) → FastSparesSoFar t
  normal_fast r round = still_spares spec.Normal r round same.1 (normal_stands g s r bytes t so_far.stands round) (λ i q is. (q, ap (λ (cs : List PartyState). slice_get cs i) (sym same.0) ∙ is, λ tame. tame))
    where
      by_ended : (b : Bool) → MatchBool b ((r ≡ still_round s) × (round.turned ≡ s)) ((e : Turn) × (r ≡ normal_round s e) × NormalTurned s round.turned e) → (round.turned.clients ≡ s.clients) × (round.turned.fast ≡ s.fast)
      by_ended true none = (ap (λ (x : SessionState). x.clients) none.1, ap (λ (x : SessionState). x.fast) none.1)
      by_ended false (e, r_is, one) = (ap (λ (x : SessionState). x.clients) one.leaves, ap (λ (x : SessionState). x.fast) one.leaves)

      same : (round.turned.clients ≡ s.clients) × (round.turned.fast ≡ s.fast)
      same = by_ended s.normal.ended round.turns.1

  goes_first : Goes (kept_of s.normal) s
  goes_first = let stands = so_far.stands in record {
    between = record { step = stands.step; history = stands.history; state = stands.leads.state; last = stands.leads.last };
    same = refl;
    whole = so_far.whole;
    spares = inl so_far.free;
  }

  fast_fast : (count : ℕ) (r : RoundNoted) (round : IsRound g (spec.Fast count) s r bytes t) → FastSparesSoFar t
  fast_fast count r round = by_exit s.fast.exited round.turns
    where
      by_exit : (b : Bool) → MatchBool b ((r ≡ still_round s) × (bytes ≡ []) × (round.turned ≡ s)) ((r ≡ fast_round s round.turned) × IsFastTurn count s bytes round.turned) → FastSparesSoFar t
      by_exit true none =
          let normal = ap (λ (x : SessionState). x.normal) none.2 in
          let fast = ap (λ (x : SessionState). x.fast) none.2 in
          still_spares (spec.Fast count) r round fast (still_stands g s r bytes t so_far.stands round.turned round.met round.meets round.ends round.together.met.fast.0 normal fast)
          (λ i q is. (q, ap (λ (x : SessionState). slice_get x.clients i) (sym none.2) ∙ is, λ tame. tame))
      by_exit false (r_is, turn) =
          let turned : SessionState = round.turned in
          let kept : NormalKept = kept_of s.normal in
          let w = round.together in
          let goes : Goes kept turned = turn_goes kept count s bytes turned turn goes_first in
          record {
            free = closes w.links turned round.met t round.meets round.ends w.met w.turned.fast.0 (subst (λ (k : NormalKept). Goes k turned) (sym goes.same) goes);
            stands = stands_after turned round.met t round.meets round.ends w.met.fast.0 goes.between.step.tells goes.between.step.same
                (record { draft = subst (λ (k : NormalKept). LeadLent k.draft k.tracks) (sym goes.same) so_far.stands.leads.draft; last = goes.between.last; state = goes.between.state })
                (subst IsQuiet (sym goes.same) so_far.stands.quiet);
            whole = whole_after w.links turned round.met t round.meets round.ends w.met goes.whole;
            used = used_after w.links turned round.met t round.meets round.ends w.met;
          }

  -- one round more spares the tracks, by the fast mixer's log
  pub fast_round_spares : (turn : TurnSpec) (r : RoundNoted) → IsRound g turn s r bytes t → FastSparesSoFar t
  fast_round_spares (spec.Client j) r round = client_fast j r round
  fast_round_spares spec.Normal r round = normal_fast r round
  fast_round_spares (spec.Fast count) r round = fast_fast count r round
