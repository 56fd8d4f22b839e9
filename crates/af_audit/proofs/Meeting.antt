-- A flush count that the server of a stream block had seen when its proxy met the client: by the end what the client released later is discarded only by looks that saw more flushes.
use Rattle.std.proofs.Common.{◌≡◌, ℕ, ◌+◌, ◌<◌, ◌≤◌, Bool, true, false, if◌then◌else◌, List, [], ◌∷◌, ◌++◌, length, refl, sym, ap, ◌∙◌, subst, arith, append_assoc}
use Rattle.af_audit.proofs.Common.{BlockTold, ClientEvent, ClientMay, HasBlockHistory, IsLegal, LegalRound, Marks, Moment, RoundSeen, Run, Session, Shape, TrackPoint, TrackTold, after, after_round, all_played, by_client, by_hand, by_server, client_append, client_list, client_of, each_track, ends, flushes_are, flushes_of, fold-append, is_lawful, lawful_first, lawful_more, meets, met, met_after, met_at, run_from, server_append, server_list, server_of, start, stream_met, takes_part, told_at, told_each, track_count, with_ends}
use Rattle.af_base.specs.declared.event.ClientEvent.TheVariants as client
use Rattle.af_base.specs.declared.event.HandEvent.TheVariants as hand
use Rattle.af_base.specs.declared.event.ServerEvent.TheVariants as server
use Rattle.af_model.specs.History.{is_no_poke}
use Rattle.af_audit.specs.Fates.{DropsByFlush}
use Rattle.af_audit.proofs.Words.{most_seen}
use Rattle.af_audit.specs.Settled.{DiscardsAbove}
use Rattle.af_audit.proofs.Drops.{met-discards, released_in, released_told, put_by, puts}
use Rattle.af_audit.proofs.Grown.{Grows, grows_twice, grows_none, ends_grow, meet_grows, played_grow, rounds_grow}

-- ## No poke

may_tame : (p : TrackPoint) (others : ℕ) (e : ClientEvent) → ClientMay p others e → is_no_poke e ≡ true
may_tame p others (client.Poke word value) may = absurd may
may_tame p others _ may = refl

-- a legal order of moments has no poke
legal_lawful : (p : TrackPoint) (order : List Moment) → IsLegal p order → is_lawful (client_of order) ≡ true
legal_lawful p [] l = refl
legal_lawful p (by_client e ∷ order) l = lawful_more (client_of order) e (may_tame (after p order) (length (server_of order)) e l.0) (legal_lawful p order l.1)
legal_lawful p (by_server e ∷ order) l = legal_lawful p order l.1
legal_lawful p (by_hand e ∷ order) l = legal_lawful p order l.1

-- ## A block at its meeting

-- the block after a meeting in which its proxy takes part
pub stream_grows : (hands : Bool) (b : BlockTold) → Grows (meets b) (stream_met true hands b)
stream_grows true b = record { shape = refl; more = by_hand (hand.Met (length (client_list (meets b)))) ∷ []; told = refl }
stream_grows false b = grows_none (meets b)

met_clients : (hands : Bool) (b : BlockTold) → client_list (stream_met true hands b) ≡ client_list b ++ client.Learn (length (server_list b)) ∷ []
met_clients true b = refl
met_clients false b = refl

-- in a history after it the client's list before it released no more than the block has released
pub released_met : (hands : Bool) (b : BlockTold) → HasBlockHistory (stream_met true hands b) → released_in (client_list b) ≤ length (stream_met true hands b).released
released_met hands b h =
    let k : Shape = (stream_met true hands b).shape in
    let a = h.released_is in
    let c = released_told k h.order in
    let d : released_in (client_of h.order) ≡ released_in (client_list b) + put_by (client.Learn (length (server_list b))) = ap released_in (h.client_is ∙ met_clients hands b) ∙ fold-append puts 0 (client_list b) (client.Learn (length (server_list b)) ∷ []) in
    omega (arith, a, c, d)

-- What is recorded of a later block begins with what was recorded up to the meeting
module _ (b last : BlockTold) (g : Grows (meets b) last) (h : HasBlockHistory last) (from count : ℕ) (narrow : last.shape.wrap ≤ 32768) (few : flushes_of (client_list last) ≤ 65536) (noticed : DropsByFlush last.shape [] (server_list last))
    (seen : count ≤ most_seen last.shape (server_list b)) (released : released_in (client_list b) ≤ from) where
  clients_are : client_list last ≡ client_list b ++ client.Learn (length (server_list b)) ∷ client_of g.more
  clients_are = ap client_of g.told ∙ client_append g.more (meets b).told ∙ append_assoc (client_list b) (client.Learn (length (server_list b)) ∷ []) (client_of g.more)

  servers_are : server_list last ≡ server_list b ++ server.Learn (length (client_list b)) ∷ server_of g.more
  servers_are = ap server_of g.told ∙ server_append g.more (meets b).told ∙ append_assoc (server_list b) (server.Learn (length (client_list b)) ∷ []) (server_of g.more)

  pub block-discards : DiscardsAbove last.shape from count h.order
  block-discards = met-discards last.shape from count h.order (record {
    narrow = narrow;
    legal = h.legal;
    few = (let a = flushes_are last.shape h.order in let c = ap flushes_of h.client_is in omega (arith, a, c, few));
    noticed = subst (DropsByFlush last.shape []) (sym h.server_is) noticed;
    clients = client_list b;
    servers = server_list b;
    other = length (client_list b);
    clients_later = client_of g.more;
    servers_later = server_of g.more;
    clients_are = h.client_is ∙ clients_are;
    servers_are = h.server_is ∙ servers_are;
    seen = seen;
    released = released;
  })

-- a block had no poke if it has none later
pub grown_tame : (a last : BlockTold) → Grows a last → HasBlockHistory last → is_lawful (client_list a) ≡ true
grown_tame a last g h =
    let list : client_of h.order ≡ client_list a ++ client_of g.more = h.client_is ∙ ap client_of g.told ∙ client_append g.more a.told in
    lawful_first (client_list a) (client_of g.more) (subst (λ (es : List ClientEvent). is_lawful es ≡ true) list (legal_lawful (start last.shape) h.order h.legal))

-- ## A run

-- once the normal mixer has ended, the clients end, and no block changes
pub ends_stream : (n : ℕ) (run : Run) → n < length run.tracks → (told_at (with_ends run) n).stream ≡ (told_at run n).stream
unfolding with_ends
ends_stream n run low = by_end run.normal.ended
  where
    by_end : (b : Bool) → (told_at (if b then each_track (λ track t. record t { client = ends t.client }) run else run) n).stream ≡ (told_at run n).stream
    by_end true = ap (λ (t : TrackTold). t.stream) (told_each (λ track t. record t { client = ends t.client }) run n low)
    by_end false = refl

module _ (cut : Bool) (s : Session) (marks : Marks) (run : Run) (round : RoundSeen) (rounds : List RoundSeen) (n : ℕ) (there : n < length run.tracks) (low : n < track_count s) (legal : LegalRound cut s marks run round) where
  -- the stream block when the round's turns were made, and by the end
  abbrev pub played_stream : BlockTold
  played_stream = (told_at (all_played s run round) n).stream

  abbrev pub last_stream : BlockTold
  last_stream = (told_at (run_from s (after_round s run round) rounds) n).stream

  played_there : n < length (all_played s run round).tracks
  played_there = (played_grow n s run round there).there

  met_there : n < length (met_after s run round).tracks
  met_there = (meet_grows n s (all_played s run round) played_there).there

  round_there : n < length (after_round s run round).tracks
  round_there = (ends_grow n (met_after s run round) met_there).there

  met_grows_last : Grows (told_at (met_after s run round) n).stream last_stream
  met_grows_last = grows_twice (told_at (met_after s run round) n).stream (told_at (after_round s run round) n).stream last_stream (ends_grow n (met_after s run round) met_there).track.stream (rounds_grow n s rounds (after_round s run round) round_there).track.stream

  module _ (part : takes_part s (all_played s run round) n ≡ true) where
    met_stream : (told_at (met_after s run round) n).stream ≡ stream_met true (all_played s run round).handed played_stream
    met_stream = ap (λ (t : TrackTold). t.stream) (met_at s (all_played s run round) n played_there) ∙ ap (λ b. stream_met b (all_played s run round).handed played_stream) part

    pub meeting_grows : Grows (meets played_stream) last_stream
    meeting_grows =
        let first : Grows (meets played_stream) (told_at (after_round s run round) n).stream = subst (Grows (meets played_stream)) (sym (ends_stream n (met_after s run round) met_there ∙ met_stream)) (stream_grows (all_played s run round).handed played_stream) in
        grows_twice (meets played_stream) (told_at (after_round s run round) n).stream last_stream first (rounds_grow n s rounds (after_round s run round) round_there).track.stream

    -- what the client released before the meeting
    released_then : HasBlockHistory last_stream → released_in (client_list played_stream) ≤ length (told_at (after_round s run round) n).stream.released
    unfolding met
    released_then h =
        let hands = (all_played s run round).handed in
        let tame : is_lawful (client_list (told_at (met_after s run round) n).stream) ≡ true = grown_tame (told_at (met_after s run round) n).stream last_stream met_grows_last h in
        let history : HasBlockHistory (told_at (met_after s run round) n).stream = (legal.histories.blocks n low).stream part tame in
        subst (λ (b : BlockTold). released_in (client_list played_stream) ≤ length b.released) (sym (ends_stream n (met_after s run round) met_there ∙ met_stream)) (released_met hands played_stream (subst HasBlockHistory met_stream history))

    -- if its server had seen so many flushes when the round's turns were made, what the client releases in later rounds is discarded only by looks that saw more
    pub meeting-discards : (count : ℕ) (h : HasBlockHistory last_stream) → last_stream.shape.wrap ≤ 32768 → flushes_of (client_list last_stream) ≤ 65536 → DropsByFlush last_stream.shape [] (server_list last_stream)
        → count ≤ most_seen last_stream.shape (server_list played_stream) → DiscardsAbove last_stream.shape (length (told_at (after_round s run round) n).stream.released) count h.order
    meeting-discards count h narrow few noticed seen = block-discards played_stream last_stream meeting_grows h (length (told_at (after_round s run round) n).stream.released) count narrow few noticed seen (released_then h)
