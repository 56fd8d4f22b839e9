-- The blocks of a test's tracks, with their clients and their servers.
use Rattle.std.proofs.Common.{◌≡◌, ℕ, zero, suc, ◌+◌, ◌≤◌, true, List, [], ◌∷◌, ◌++◌, length, Option, Some, refl, subst, arith}
use Rattle.std.specs.Prelude.{slice_get}
use Rattle.std.proofs.lemmas.List.{length-append}
use Rattle.std.proofs.lemmas.List.Elements.{All-append}
use Rattle.af_base.proofs.Basics.{all_one, some_same}
use Rattle.af_cblk.specs.Sides.{Made}
use Rattle.af_client.specs.Order.{ClientState, IsClientOf}
use Rattle.af_fast.proofs.Basics.{one_of}
use Rattle.af_server.specs.Order.{ServerState, IsServerOf}
use Rattle.af_link.specs.Names.{IsStreamOf}
use Rattle.af_life.specs.declared.kept.Setting.{Setting}
use Rattle.af_normal.specs.Making.{TrackList, setting_of, with_track}
use Rattle.af_normal.specs.Mixing.{stream_at}
use Rattle.af_normal_tests.specs.Testing.{AreLines, IsLine}
use Rattle.af_normal.specs.declared.make.TrackSetup.{TrackSetup}
use Rattle.af_normal_tests.proofs.Zips.{zip_push}

-- one block more, with a stream proxy
more_streams : (blocks : List Made) (streams : List (Option ServerState)) (b : Made) (x : ServerState) → length blocks ≡ length streams → IsServerOf b x
    → ((i : ℕ) (s : ServerState) → stream_at streams i ≡ Some s → IsStreamOf blocks i s)
    → (i : ℕ) (s : ServerState) → stream_at (streams ++ Some x ∷ []) i ≡ Some s → IsStreamOf (blocks ++ b ∷ []) i s
more_streams [] [] b x long of each zero s is = one_of (b ∷ []) 0 b x s refl of is
more_streams [] [] b x long of each (suc i) s is = cc
more_streams [] (t ∷ ts) b x long of each i s is = absurd (omega (arith, long))
more_streams (c ∷ bs) [] b x long of each i s is = absurd (omega (arith, long))
more_streams (c ∷ bs) (t ∷ ts) b x long of each zero s is = let here = each 0 s is in record { made = here.made; in_order = here.in_order }
more_streams (c ∷ bs) (t ∷ ts) b x long of each (suc i) s is =
    let here = more_streams bs ts b x (omega (arith, long)) of (λ j r at_j. let there = each (suc j) r at_j in record { made = there.made; in_order = there.in_order }) i s is in
    record { made = here.made; in_order = here.in_order }

-- one block more, with a command proxy
more_commands : (blocks : List Made) (commands : List ServerState) (b : Made) (x : ServerState) → length blocks ≡ length commands → IsServerOf b x
    → ((i : ℕ) (s : ServerState) → slice_get commands i ≡ Some s → IsStreamOf blocks i s)
    → (i : ℕ) (s : ServerState) → slice_get (commands ++ x ∷ []) i ≡ Some s → IsStreamOf (blocks ++ b ∷ []) i s
more_commands [] [] b x long of each zero s is = one_of (b ∷ []) 0 b x s refl of is
more_commands [] [] b x long of each (suc i) s is = cc
more_commands [] (t ∷ ts) b x long of each i s is = absurd (omega (arith, long))
more_commands (c ∷ bs) [] b x long of each i s is = absurd (omega (arith, long))
more_commands (c ∷ bs) (t ∷ ts) b x long of each zero s is = let here = each 0 s is in record { made = here.made; in_order = here.in_order }
more_commands (c ∷ bs) (t ∷ ts) b x long of each (suc i) s is =
    let here = more_commands bs ts b x (omega (arith, long)) of (λ j r at_j. let there = each (suc j) r at_j in record { made = there.made; in_order = there.in_order }) i s is in
    record { made = here.made; in_order = here.in_order }

-- what holds of each stream proxy holds of one more too, if it holds of that
more_hold : (P : ServerState → Type 0) (streams : List (Option ServerState)) (x : ServerState) → P x
    → ((i : ℕ) (s : ServerState) → stream_at streams i ≡ Some s → P s)
    → (i : ℕ) (s : ServerState) → stream_at (streams ++ Some x ∷ []) i ≡ Some s → P s
more_hold P [] x p each zero s is = subst P (some_same x s is) p
more_hold P [] x p each (suc i) s is = cc
more_hold P (t ∷ ts) x p each zero s is = each 0 s is
more_hold P (t ∷ ts) x p each (suc i) s is = more_hold P ts x p (λ j. each (suc j)) i s is

-- a track more
pub lines_more : (n : ℕ) (streams commands : List Made) (clients senders : List ClientState) (tracks : TrackList) (block control : Made) (client sender : ClientState) (t : TrackSetup)
    → AreLines n streams commands clients senders tracks → IsLine block client t.stream → IsLine control sender t.command → t.scale ≤ 4096
    → AreLines (n + 1) (streams ++ block ∷ []) (commands ++ control ∷ []) (clients ++ client ∷ []) (senders ++ sender ∷ []) (with_track t tracks)
lines_more n streams commands clients senders tracks block control client sender t lines stream command scale = record {
  long = (
    omega (arith, lines.long.0, length-append streams (block ∷ [])),
    omega (arith, lines.long.1, length-append commands (control ∷ [])),
    omega (arith, lines.long.2, length-append tracks.settings (setting_of t ∷ [])),
    omega (arith, lines.long.3, length-append tracks.streams (Some t.stream ∷ [])),
    omega (arith, lines.long.4, length-append tracks.commands (t.command ∷ [])),
  );
  clients_are = zip_push IsClientOf streams clients block client lines.clients_are stream.client_is;
  senders_are = zip_push IsClientOf commands senders control sender lines.senders_are command.client_is;
  scales = All-append (λ (setting : Setting). setting.scale ≤ 4096) tracks.settings (setting_of t ∷ []) lines.scales (all_one (λ (setting : Setting). setting.scale ≤ 4096) (setting_of t) scale);
  streams_of = more_streams streams tracks.streams block t.stream (omega (arith, lines.long.0, lines.long.3)) stream.server_is lines.streams_of;
  hands_of = more_hold (λ (s : ServerState). s.pass.has_hand ≡ true) tracks.streams t.stream stream.whole lines.hands_of;
  commands_of = more_commands commands tracks.commands control t.command (omega (arith, lines.long.1, lines.long.4)) command.server_is lines.commands_of;
}
