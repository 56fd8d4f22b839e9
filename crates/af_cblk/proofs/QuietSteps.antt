-- Steps that change no position, if the client has not poked.
use Rattle.std.proofs.Common.{◌≡◌, ◌≢◌, ℕ, ◌+◌, ◌≤◌, List, [], ◌∷◌, ◌++◌, length, get_or, set, sym, ap, ◌∙◌, subst, arith, length-append, append_assoc}
use Rattle.af_cblk.proofs.Common.{ClientEvent, ClientMay, HandEvent, HandMay, Moment, ServerEvent, ServerMay, Shape, TrackPoint, after_client, after_hand, after_server, client_adds, client_of, clients_at, flush_word, hand_adds, in_turn, max_le, met_by, met_in, point, server_adds, server_of, taken_of, with_taken, wrapped}
use Rattle.af_model.specs.Fates.{InTurn}
use Rattle.af_cblk.specs.declared.view.ClientPart.{ClientPart}
use Rattle.af_cblk.specs.declared.view.ServerPart.{ServerPart}
use Rattle.af_cblk.specs.declared.view.HandPart.{HandPart}
use Rattle.af_cblk.specs.Parts.{client_did, server_did}
use Rattle.af_cblk.specs.Rule.{words_of, Small, ClientKnows, ServerKnows, KnowsFlush, FlushKnown, StartsWith, Stands}
use Rattle.af_cblk.proofs.Rows.{set_back}

abbrev pub at : List ℕ → ℕ → ℕ
at ws i = get_or ws i 0

-- positions never pass one another
pub turn_of : {k : Shape} {words : List ℕ} {c : ClientPart} {s : ServerPart} {h : HandPart} (i : Stands k words c s h) → InTurn k (point i.history)
turn_of {k} i = in_turn k i.history.order i.history.legal

-- what was met stays behind
pub longer : (order : List Moment) (e : ClientEvent) → met_in order ≤ length (client_of order) → met_in order ≤ length (client_of order ++ e ∷ [])
longer order e h = let l : length (client_of order ++ e ∷ []) ≡ length (client_of order) + 1 = length-append (client_of order) (e ∷ []) in omega arith

-- ## Steps that change no position

module _ (k : Shape) (words words' : List ℕ) (c : ClientPart) (s : ServerPart) (h : HandPart) (i : Stands k words c s h) where
  -- the positions of a point, and what it tells of flushes
  abbrev pub places : TrackPoint → ℕ × ℕ × ℕ × ℕ × ℕ × ℕ × ℕ
  places p = (p.released, p.consumed, p.rear_seen, p.flushes, p.flush_seen, p.flush_at, p.drop_to)

  abbrev pub Same : TrackPoint → Type 0
  Same p = places p ≡ places (point i.history)

  abbrev pub StandFor : TrackPoint → Type 0
  StandFor p = (tally : ℕ) × (words' ≡ words_of p tally i.cells) × (wrapped tally ≡ p.underruns) × Small (flush_word p) p.flags p.gains p.status

  -- if the positions are as before, the parties know as much
  pub client_at : (p : TrackPoint) → Same p → ClientKnows k p.consumed p.released c.frames i.cells c.stored c.front
  client_at p same = subst (λ (x : ℕ × ℕ × ℕ × ℕ × ℕ × ℕ × ℕ). ClientKnows k x.1 x.0 c.frames i.cells c.stored c.front) (sym same) i.client_knows

  pub server_at : (p : TrackPoint) → Same p → ServerKnows k.base p.consumed p.rear_seen c.frames s.rear s.front s.loaded
  server_at p same = subst (λ (x : ℕ × ℕ × ℕ × ℕ × ℕ × ℕ × ℕ). ServerKnows k.base x.1 x.2 c.frames s.rear s.front s.loaded) (sym same) i.server_knows

  pub flushed_at : (p : TrackPoint) → Same p → p.flush_at ≡ c.flush_at
  flushed_at p same = ap (λ (x : ℕ × ℕ × ℕ × ℕ × ℕ × ℕ × ℕ). x.5) same ∙ i.flushed

  pub flush_known_at : (p : TrackPoint) → Same p → k.wrap ≢ 0 → FlushKnown k p s
  flush_known_at p same placed =
      subst (λ (x : ℕ × ℕ × ℕ × ℕ × ℕ × ℕ × ℕ). KnowsFlush k x.1 x.2 x.3 x.4 x.5 x.6 s.flush s.noticed s.flush_fresh s.rear_fresh) (sym same) (i.flush_known placed)

  pub more_events : (e : ServerEvent) → StartsWith (s.events ++ e ∷ []) c.learnt
  more_events e = (i.learnt.0 ++ e ∷ [], sym (append_assoc c.learnt i.learnt.0 (e ∷ [])) ∙ ap (λ es. es ++ e ∷ []) i.learnt.1)

  pub quiet_client : (e : ClientEvent) → ClientMay (point i.history) (length (server_of i.history.order)) e → Same (after_client (point i.history) e)
      → StandFor (after_client (point i.history) e) → Stands k words' (client_did c e) s h
  quiet_client e may same now =
      let p = after_client (point i.history) e in
      record {
        history = client_adds i.history e may (ap (λ (x : ℕ × ℕ × ℕ × ℕ × ℕ × ℕ × ℕ). x.0) same);
        settled = i.settled;
        tally = now.0;
        cells = i.cells;
        words_are = now.1;
        tally_is = now.2;
        small = now.3;
        mets = longer i.history.order e i.mets;
        learnt = i.learnt;
        flushed = flushed_at p same;
        flush_known = flush_known_at p same;
        client_knows = client_at p same;
        server_knows = server_at p same;
      }

  -- an event that is neither a take nor a drop
  pub quiet_server : (e : ServerEvent) → ServerMay (point i.history) (length (client_of i.history.order)) e → Same (after_server (point i.history) e)
      → ((frames : List ℕ) (base : ℕ) (p : TrackPoint) (taken : List ℕ) → with_taken frames base p taken e ≡ taken)
      → StandFor (after_server (point i.history) e) → Stands k words' c (server_did s e) h
  quiet_server e may same none now =
      let p = after_server (point i.history) e in
      record {
        history = server_adds i.history e s.frames may (ap (λ (x : ℕ × ℕ × ℕ × ℕ × ℕ × ℕ × ℕ). x.0) same) (none c.frames k.base (point i.history) s.frames);
        settled = (λ more. none (c.frames ++ more) k.base (point i.history) (taken_of (c.frames ++ more) k i.history.order) ∙ i.settled more ∙ sym (none c.frames k.base (point i.history) (taken_of c.frames k i.history.order)));
        tally = now.0;
        cells = i.cells;
        words_are = now.1;
        tally_is = now.2;
        small = now.3;
        mets = i.mets;
        learnt = more_events e;
        flushed = flushed_at p same;
        flush_known = flush_known_at p same;
        client_knows = client_at p same;
        server_knows = server_at p same;
      }

  abbrev hand_did : HandEvent → HandPart
  hand_did e = record h { events = h.events ++ e ∷ [] }

  pub quiet_hand : (e : HandEvent) → HandMay (length (client_of i.history.order)) (met_in i.history.order) (clients_at i.history.order) e → met_by e ≤ length (client_of i.history.order) → Same (after_hand (point i.history) e)
      → StandFor (after_hand (point i.history) e) → Stands k words' c s (hand_did e)
  quiet_hand e may few same now =
      let p = after_hand (point i.history) e in
      record {
        history = hand_adds i.history e may (ap (λ (x : ℕ × ℕ × ℕ × ℕ × ℕ × ℕ × ℕ). x.0) same);
        settled = i.settled;
        tally = now.0;
        cells = i.cells;
        words_are = now.1;
        tally_is = now.2;
        small = now.3;
        mets = max_le (met_by e) (met_in i.history.order) (length (client_of i.history.order)) few i.mets;
        learnt = i.learnt;
        flushed = flushed_at p same;
        flush_known = flush_known_at p same;
        client_knows = client_at p same;
        server_knows = server_at p same;
      }

-- a load of one of the first words leaves the words
pub same_word : (n : ℕ) (words : List ℕ) → set words n (at words n) ≡ words
same_word n words = set_back words n
