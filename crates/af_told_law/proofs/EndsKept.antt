-- The ends of a session that a run tells keep the lists of that run.
use Rattle.std.proofs.Common.{◌≡◌, ℕ, ◌<◌, true, List, slice_get, Some, sym, ap, subst, ◌∙◌, arith}
use Rattle.af_told_law.proofs.Common.{BlockTold, ClientState, KeepsClient, Marks, PartyState, Run, ServerEvent, ServerState, Session, SessionState, Side, Track, client_side, is_tame, server_list, side_of_proxy, slice_get_within, stream_at, told_at, track_count}
use Rattle.af_session.specs.Ends.{ends_from}
use Rattle.af_told_law.specs.Alike.{TellAlike}
use Rattle.af_told_law.specs.Deeds.{DeedTold, Deeds, SawOwnBy, SawOwnOf, done_on}
use Rattle.af_told_law.specs.KeptEnds.{KeepsLists, KeepsProxy, KeepsTrack}
use Rattle.af_told_law.specs.Tells.{Tells, TellsServer, TellsTrack}

-- of each stream proxy that is home, and of each command proxy, each front seen is the server's own if no poke was told
pub record SawAtHome (s : Session) (run : Run) (d : Deeds) (x : SessionState) : Type 0 where
  pub streams : (i : ℕ) (t : ServerState) → i < track_count s → stream_at x.normal.streams i ≡ Some t → is_tame (told_at run i).stream ≡ true → SawOwnOf (told_at run i).stream.shape (d.streams i)
  pub commands : (i : ℕ) → i < track_count s → is_tame (told_at run i).commands ≡ true → SawOwnOf (told_at run i).commands.shape (d.commands i)

-- the blocks that weren't poked so far
abbrev pub tame_marks : Run → Marks
tame_marks run = record { streams = λ i. is_tame (told_at run i).stream; commands = λ i. is_tame (told_at run i).commands }

-- a client's side is the one told
keeps_client : (b : BlockTold) (c : ClientState) → client_side b ≡ side_of_proxy c → KeepsClient b c.pass.part.events c.pass.part.frames
keeps_client b c is = record { told = ap (λ (y : Side). y.events) (sym is); words = ap (λ (y : Side). y.released) (sym is) }

-- a proxy that did what is told of it
keeps_proxy : (b : BlockTold) (deed : List ServerEvent) (t : ServerState) → TellsServer (done_on b deed) t → DeedTold b deed → (is_tame b ≡ true → SawOwnOf b.shape deed) → KeepsProxy b t
keeps_proxy b deed t is did saw = record {
  told = (λ tame. is.events ∙ did.own (saw tame));
  alike = subst (λ (es : List ServerEvent). TellAlike b.shape es (server_list b)) (sym is.events) did.alike;
  words = is.taken;
}

module _ (s : Session) (run : Run) (d : Deeds) (x : SessionState) (told : Tells s run d x) (saw : SawAtHome s run d x) where
  keeps_track : (i : ℕ) (p : PartyState) → slice_get x.clients i ≡ Some p → KeepsTrack (told_at run i) x.normal i p
  keeps_track i p is =
      let low : i < track_count s = (let w = slice_get_within x.clients i p is in let c = told.count.1 in omega (arith, w, c)) in
      let t : TellsTrack s x.normal x.fast d i (told_at run i) p = told.tracks i p is in
      record {
        stream = keeps_client (told_at run i).stream p.stream (ap (λ (y : Track). y.stream) t.client);
        command = keeps_client (told_at run i).commands p.command (ap (λ (y : Track). y.commands) t.client);
        home = (λ y here. keeps_proxy (told_at run i).stream (d.streams i) y (t.stream.home y here) t.did.stream (saw.streams i y low here));
        commands = (λ y here. keeps_proxy (told_at run i).commands (d.commands i) y (t.commands y here).server t.did.commands (saw.commands i low));
        hand = t.stream.hand;
      }

  pub ends_keep_lists : KeepsLists run (ends_from x)
  ends_keep_lists = record { tracks = keeps_track; mutator = told.shared.mutator; reader = told.shared.reader; pipe = told.shared.puts }

-- each server at home saw its own fronts, if no poke was told
pub own_at_home : (s : Session) (run : Run) (d : Deeds) (x : SessionState) → Tells s run d x → SawOwnBy (tame_marks run) run d → SawAtHome s run d x
own_at_home s run d x told saw = record {
  streams = (λ i t low here tame. saw.streams i (let c = told.count.0 in omega (arith, low, c)) tame);
  commands = (λ i low tame. saw.commands i (let c = told.count.0 in omega (arith, low, c)) tame);
}
