-- What the fast mixer knows after a round.
use Rattle.std.proofs.Common.{◌≡◌, ℕ, ◌<◌, Bool, true, false, List, [], ◌∷◌, ◌++◌, length, take, sym, ap, ◌∙◌, subst, arith, length-append}
use Rattle.af_enough_law.proofs.Common.{BlockTold, ClientEvent, RoundSeen, Run, ServerEvent, Session, TrackTold, after_round, all_played, client_does, client_list, ends_part, meets, meets_flag, met, met_after, server_list, stream_met, take-append_seam, takes_part, told_at, told_each, track_met}
use Rattle.af_base.specs.declared.event.ClientEvent.TheVariants as client
use Rattle.af_base.specs.declared.event.HandEvent.TheVariants as hand
use Rattle.af_base.specs.declared.event.ServerEvent.TheVariants as server
use Rattle.af_enough_law.proofs.Basics.{part_met, put-append}
use Rattle.af_enough_law.specs.Seen.{frames_put}
use Rattle.af_enough_law.proofs.FastWords.{KnowsReleased}
use Rattle.af_enough_law.proofs.FastRounds.{over, all_length}
use Rattle.af_enough_law.proofs.FastSteps.{server_does-server, server_does-client, client_does-client, client_does-server, hand_does-client, hand_does-server}

-- ## What was released

-- a server that met its client knows all that was released
knows_by : (cs : List ClientEvent) (ss : List ServerEvent) (m : ℕ) (b : BlockTold) → client_list b ≡ cs ++ client.Learn m ∷ [] → server_list b ≡ ss ++ server.Learn (length cs) ∷ [] → KnowsReleased b
knows_by cs ss m b calls events = record {
  count = length cs;
  learnt = record { before = ss; behind = []; whole = events };
  within = (let a = ap length calls in let c = length-append cs (client.Learn m ∷ []) in omega arith);
  released =
      ap (λ l. frames_put (take (length cs) l)) calls ∙ ap frames_put (take-append_seam cs (client.Learn m ∷ []))
      ∙ (let a = put-append cs (client.Learn m ∷ []) in let e : frames_put cs ≡ frames_put (cs ++ client.Learn m ∷ []) = omega arith in e) ∙ ap frames_put (sym calls);
}

pub meets_client : (b : BlockTold) → client_list (meets b) ≡ client_list b ++ client.Learn (length (server_list b)) ∷ []
meets_client b =
    let called : BlockTold = client_does (client.Learn (length (server_list b)) ∷ []) b in
    server_does-client (server.Learn (length (client_list b)) ∷ []) called ∙ client_does-client (client.Learn (length (server_list b)) ∷ []) b

pub meets_server : (b : BlockTold) → server_list (meets b) ≡ server_list b ++ server.Learn (length (client_list b)) ∷ []
meets_server b =
    let called : BlockTold = client_does (client.Learn (length (server_list b)) ∷ []) b in
    server_does-server (server.Learn (length (client_list b)) ∷ []) called ∙ ap (λ l. l ++ server.Learn (length (client_list b)) ∷ []) (client_does-server (client.Learn (length (server_list b)) ∷ []) b)

met_knows : (handed : Bool) (b : BlockTold) → KnowsReleased (stream_met true handed b)
met_knows true b =
    knows_by (client_list b) (server_list b) (length (server_list b)) (meets_flag (meets b))
    (hand_does-client (hand.Met (length (client_list (meets b))) ∷ []) (meets b) ∙ meets_client b) (hand_does-server (hand.Met (length (client_list (meets b))) ∷ []) (meets b) ∙ meets_server b)
met_knows false b = knows_by (client_list b) (server_list b) (length (server_list b)) (meets b) (meets_client b) (meets_server b)

met_knows_at : (s : Session) (run : Run) (track : ℕ) → track < length run.tracks → takes_part s run track ≡ true → KnowsReleased (told_at (met s run) track).stream
unfolding met
met_knows_at s run track low part =
    subst (λ (t : TrackTold). KnowsReleased t.stream) (sym (told_each (track_met s run) run track low))
    (subst (λ (b : Bool). KnowsReleased (stream_met b run.handed (told_at run track).stream)) (sym part) (met_knows run.handed (told_at run track).stream))

-- if the proxy takes part in the meeting after a round, its server knows all that was released
pub knows_released : (s : Session) (run : Run) (round : RoundSeen) (track : ℕ) → track < length run.tracks → takes_part s (after_round s run round) track ≡ true → KnowsReleased (told_at (after_round s run round) track).stream
knows_released s run round track low part =
    let all = all_length s run round in
    let at_met : takes_part s (met_after s run round) track ≡ true = sym (ends_part s (met_after s run round) track) ∙ part in
    let at_end : takes_part s (all_played s run round) track ≡ true = sym (part_met s (all_played s run round) track) ∙ at_met in
    subst KnowsReleased (sym (over s run round track low).whole) (met_knows_at s (all_played s run round) track (omega (arith, all, low)) at_end)
