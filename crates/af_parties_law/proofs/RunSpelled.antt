-- In a run of all parties each client's lists are spelled by just the calls that the journal records of it.
use Rattle.std.proofs.Common.{◌≡◌, ℕ, Bool, List, [], ◌∷◌, ◌++◌, length, map, option_map, slice_get, Option, Some, None, refl, sym, ap, subst, ◌∙◌, append_assoc, append-nil, drop, take, arith}
use Rattle.af_parties_law.proofs.Common.{ClientCall, ClientPart, ClientPlayed, ClientState, EndsState, EntrySeen, Frame, Given, HandSide, IsNewSession, IsRoundOfAll, IsTrackAt, JournalData, Kind, Made, MeetsAway, MeetsStream, PartyState, RoundNoted, RoundSeen, ScriptData, ServerState, SessionState, SharedState, Spot, SpotMet, Track, client_knows, clients_ended, clients_met, commands, file_at, flat_map, flat_map-cons, get_or_from_slice_get, ops_at, rounds_seen, same_Some, slice_get-map, slice_get_within, slice_index_or, stream, track_of, tracks_of, zip_at}
use Rattle.af_session.specs.Met.{TrackMet}
use Rattle.af_playing.specs.PlayedRuns.{HandsBackRun, IsRunOfAll}
use Rattle.af_parties_law.specs.Spelled.{BothSpell, CallsStandOnce, IsSpelled, Spells, calls_told}
use Rattle.af_parties_law.proofs.ClientsSpelled.{spelled_met, spelled_none, turn_spells}

-- ## A meeting

module _ (calls : List ClientCall) where
  knows : (kind : Kind) (c d : ClientState) (s : ServerState) → d ≡ client_knows c s → Spells kind calls c → Spells kind calls d
  knows kind c d s is spells = subst (Spells kind calls) (sym is) (spelled_met kind c.pass.part.shape.frames c.pass.part.shape.base calls c.pass.part.events (length s.pass.part.events) spells)

  stream_met : (block : Made) (o : Option ServerState) (a : Spot) (c : ClientState) (b : Spot) (d : ClientState) → SpotMet block o a c b d → Spells stream calls c → Spells stream calls d
  stream_met block (Some s) a c b d met spells = home a.hand met.0
    where
      home : (h : Option HandSide) → MeetsStream block (Some s) h c b.stream b.hand d → Spells stream calls d
      home None m = knows stream c d s m.3.client spells
      home (Some h) m = knows stream c d s m.4.client spells
  stream_met block None a c b d met spells = away a.held met.met
    where
      away : (o : Option ServerState) → MeetsAway block o met.hand c b.held met.hand' d → Spells stream calls d
      away None m = subst (Spells stream calls) (sym m.1.client) spells
      away (Some s) m = knows stream c d s m.2.client spells

  track_met : (a b : Spot) (p q : PartyState) → TrackMet a b p q → BothSpell calls p → BothSpell calls q
  track_met a b p q met spells = (stream_met _ a.stream a p.stream b q.stream met.streamed spells.0, knows commands p.command q.command met.command met.commanded.client spells.1)

-- ## A round

-- the lists of each client are spelled by these calls of that client
abbrev AllSpell : (ℕ → List ClientCall) → SessionState → Type 0
AllSpell calls s = (i : ℕ) (p : PartyState) → slice_get s.clients i ≡ Some p → BothSpell (calls i) p

module _ (g : Given) (s : SessionState) (r : RoundNoted) (bytes : List ℕ) (t : SessionState) (round : IsRoundOfAll g s r bytes t) where
  abbrev x : SessionState
  x = round.turned

  -- the calls noted of a client are those of its turn
  pub calls_noted : (i : ℕ) (p : PartyState) → slice_get x.clients i ≡ Some p → slice_index_or r.calls i [] ≡ p.calls.items
  calls_noted i p at =
      let f : PartyState → List ClientCall = λ (y : PartyState). y.calls.items in
      ap (λ (y : RoundNoted). slice_index_or y.calls i []) round.told ∙ get_or_from_slice_get (map f x.clients) i (f p) [] (slice_get-map f x.clients i ∙ ap (option_map f) at)

  pub round_spells : (calls : ℕ → List ClientCall) → AllSpell calls s → AllSpell (λ i. calls i ++ slice_index_or r.calls i []) t
  round_spells calls spells i q at =
      let all : List ClientCall = calls i ++ slice_index_or r.calls i [] in
      let last = clients_ended round.met i q (ap (λ (y : SessionState). slice_get y.clients i) (sym round.ends) ∙ at) in
      let met = clients_met x round.met round.meets i last.0 last.1 in
      let first = zip_at (ClientPlayed g) s.clients x.clients i met.0 round.plays.clients met.1 in
      let before : Track = track_of (ops_at g first.0.track) (file_at g first.0.track) first.0 in
      let after : Track = track_of (ops_at g first.0.track) (file_at g first.0.track) met.0 in
      let turned : BothSpell (calls i ++ met.0.calls.items) met.0 = turn_spells (calls i) met.0.calls.items before after first.2.turned (spells i first.0 first.1) in
      let noted : BothSpell all met.0 = subst (λ (l : List ClientCall). BothSpell (calls i ++ l) met.0) (sym (calls_noted i met.0 met.1)) turned in
      let kept : BothSpell all last.0 = track_met all _ _ met.0 last.0 met.2 noted in
      (subst (Spells stream all) (sym last.2) kept.0, subst (Spells commands all) (sym last.3) kept.1)

-- ## A run

-- the calls of a client in all rounds noted
abbrev calls_over : List RoundNoted → ℕ → List ClientCall
calls_over rounds i = flat_map (λ (r : RoundNoted). slice_index_or r.calls i []) rounds

run_spells : (g : Given) (s : SessionState) (rounds : List RoundNoted) (bytes : List ℕ) (t : SessionState) → IsRunOfAll g s rounds bytes t → (calls : ℕ → List ClientCall) → AllSpell calls s → AllSpell (λ i. calls i ++ calls_over rounds i) t
run_spells g s [] bytes t run calls spells = λ i p at.
    subst (λ (l : List ClientCall). BothSpell l p) (sym (append-nil (calls i))) (spells i p (ap (λ (y : SessionState). slice_get y.clients i) (sym run.1) ∙ at))
run_spells g s (r ∷ rs) bytes t run calls spells = λ i p at.
    let here : List ClientCall = slice_index_or r.calls i [] in
    subst (λ (l : List ClientCall). BothSpell l p) (append_assoc (calls i) here (calls_over rs i) ∙ ap (λ (l : List ClientCall). calls i ++ l) (sym (flat_map-cons (λ (y : RoundNoted). slice_index_or y.calls i []) r rs)))
    (run_spells g run.2 rs run.1 t run.6 (λ k. calls k ++ slice_index_or r.calls k []) (round_spells g s r run.0 run.2 run.5 calls spells) i p at)

-- ## The journal

calls_dealt : (entries : List EntrySeen) (rounds : List RoundNoted) (i : ℕ) → flat_map (λ (r : RoundSeen). slice_index_or r.calls i []) (rounds_seen entries rounds) ≡ calls_over rounds i
calls_dealt entries [] i = refl
calls_dealt entries (r ∷ rs) i =
    flat_map-cons (λ (y : RoundSeen). slice_index_or y.calls i []) (record { calls = r.calls; turn = r.turn; entries = take r.cycles entries }) (rounds_seen (drop r.cycles entries) rs)
    ∙ ap (λ (l : List ClientCall). slice_index_or r.calls i [] ++ l) (calls_dealt (drop r.cycles entries) rs i)
    ∙ sym (flat_map-cons (λ (y : RoundNoted). slice_index_or y.calls i []) r rs)

-- a new client's lists are empty
new_spells : (script : ScriptData) (shared : SharedState) (s : SessionState) → IsNewSession script shared s → AllSpell (λ i. []) s
new_spells script shared s new i p at =
    let one : IsTrackAt script.version i script.tracks shared.streams shared.commands s.clients (tracks_of script s.normal) = new.tracks.each i (omega (arith, slice_get_within s.clients i p at, new.tracks.parties)) in
    let is : one.party ≡ p = same_Some one.party p (sym one.party_at ∙ at) in
    subst (BothSpell []) is (
      subst (λ (x : ClientPart). IsSpelled stream x.shape.frames x.shape.base [] x.events) (sym one.new.party.stream.part) (spelled_none stream _ _),
      subst (λ (x : ClientPart). IsSpelled commands x.shape.frames x.shape.base [] x.events) (sym one.new.party.command.part) (spelled_none commands _ _),
    )

pub calls_stand_once : (ended : Bool) (script : ScriptData) (files : List (List Frame)) (j : JournalData) (e : EndsState) → HandsBackRun ended script files j e → CallsStandOnce j e
calls_stand_once ended script files j e h i p at =
    let played = h.played in
    let all = run_spells (record { tracks = script.tracks; files = files }) played.start h.rounds played.bytes h.parties played.run (λ k. []) (new_spells script played.shared played.start played.new) in
    let told : calls_told j i ≡ calls_over h.rounds i = ap (λ (x : JournalData). calls_told x i) h.journal_is ∙ calls_dealt _ h.rounds i in
    subst (λ (l : List ClientCall). BothSpell l p) (sym told) (all i p (ap (λ (x : EndsState). slice_get x.clients i) (sym h.ends_are) ∙ at))
