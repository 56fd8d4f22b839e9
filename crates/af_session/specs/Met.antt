-- What the meetings of all parties come to.
use Rattle.std.specs.Prelude.{◌≡◌, length}
use Rattle.af_engine.specs.Met.{ClientMet, EndsMet, Spot, TracksMet, proxies_of}
use Rattle.af_party.specs.Parties.{PartyState}
use Rattle.af_session.specs.Together.{SessionState}

-- the client p of a track met the command proxy and what the stream has. It is q then, and stays as it was in all else
abbrev pub TrackMet : Spot → Spot → PartyState → PartyState → Type 0
TrackMet a b p q = ClientMet (q ≡ record p { stream = q.stream; command = q.command }) a b p.stream p.command q.stream q.command

-- All parties met: the ends of the mixers met, and the client of each track met what the track has
pub record Met (a b : SessionState) : Type 0 where
  pub ends : EndsMet a.normal b.normal a.fast b.fast
  pub tracks : TracksMet TrackMet a.fast.observer.past.state (length a.clients) a.clients b.clients (proxies_of a.normal a.fast) (proxies_of b.normal b.fast)
