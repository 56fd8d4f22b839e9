-- What is kept of the mixers' sides of a track stays, whatever its client does.
use Rattle.std.proofs.Common.{◌≡◌, ℕ, List, [], ◌∷◌, ◌++◌, length, drop, sym, ap, ◌∙◌, subst, false}
use Rattle.af_judge.proofs.Common.{BlockTold, ClientCall, ClientEvent, Marks, ServerEvent, Side, TrackTold, after_calls, client_list, server_begins, server_list, sides_of, with_side}
use Rattle.af_runs.specs.Runs.{called_in_turn}
use Rattle.af_judge.specs.declared.track_judge.TrackJudge.{TrackJudge}
use Rattle.af_judge.specs.Blocks.{AllFollow, BlockJudged, WholeTakes, taken_in}
use Rattle.af_judge.specs.RunTold.{IsServedBlock, IsServedTrack}
use Rattle.af_judge.specs.Tracks.{SameServers}
use Rattle.af_judge.proofs.BlocksTold.{client-hand, client-server}

-- a block whose client's side is another one
side_served : (j k : BlockJudged) (b : BlockTold) (y : Side) → IsServedBlock j b → k ≡ record j { client = k.client; released = k.released } → IsServedBlock k (with_side y b)
side_served j k b y h is =
    let es : List ClientEvent = drop (length (client_list b)) y.events in
    let servers : server_list (with_side y b) ≡ server_list b = client-server b.told es in
    record {
      shape = ap (λ (x : BlockJudged). x.shape) is ∙ h.shape;
      server = ap (λ (x : BlockJudged). x.server) is ∙ (h.server ∙ sym servers);
      hand = ap (λ (x : BlockJudged). x.hand) is ∙ (h.hand ∙ sym (client-hand b.told es));
      taken = ap (λ (x : BlockJudged). x.taken) is ∙ (h.taken ∙ ap (λ (l : List ServerEvent). taken_in b.shape (server_begins b.shape) l b.taken) (sym servers));
      whole = subst (λ (l : List ServerEvent). WholeTakes l b.taken) (sym servers) h.whole;
      follow = subst (AllFollow false) (sym servers) h.follow;
    }

-- a track is kept after calls of its client, legal or not
pub track_called : (marks : Marks) (n : ℕ) (j k : TrackJudge) (t : TrackTold) (calls : List ClientCall) → IsServedTrack marks n j t → SameServers j k → IsServedTrack marks n k (called_in_turn calls t)
track_called marks n j k t calls h same =
    let after = after_calls (sides_of t) calls in
    record {
      stream = side_served j.stream k.stream t.stream after.stream h.stream same.stream;
      commands = side_served j.commands k.commands t.commands after.commands h.commands same.commands;
      lawful_stream = h.lawful_stream ∙ sym (ap (λ (x : BlockJudged). x.lawful) same.stream);
      lawful_commands = h.lawful_commands ∙ sym (ap (λ (x : BlockJudged). x.lawful) same.commands);
      wrap_stream = h.wrap_stream;
      wrap_commands = h.wrap_commands;
    }
