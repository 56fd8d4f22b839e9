-- A history with one event more.
use Rattle.std.proofs.Common.{◌≡◌, ℕ, ◌+◌, List, [], ◌∷◌, ◌++◌, length, ap, ◌∙◌}
use Rattle.af_model.proofs.Common.{ClientEvent, HandEvent, ServerEvent}
use Rattle.af_base.specs.declared.event.ClientEvent.TheVariants as client
use Rattle.af_model.specs.declared.shape.Shape.{Shape}
use Rattle.af_model.specs.Point.{ClientMay, ServerMay, HandMay, after_client, after_server, after_hand}
use Rattle.af_model.specs.History.{by_client, by_server, by_hand, client_of, server_of, met_in, clients_at, with_taken, taken_of, HasHistory, point}

module _ {shape : Shape} {ce : List ClientEvent} {cf : List ℕ} {se : List ServerEvent} {sf : List ℕ} {he : List HandEvent} (h : HasHistory shape ce cf se sf he) where
  -- an event of the client that releases nothing
  abbrev pub client_adds : (e : ClientEvent) → ClientMay (point h) (length (server_of h.order)) e → (after_client (point h) e).released ≡ (point h).released
      → HasHistory shape (ce ++ e ∷ []) cf se sf he
  client_adds e may same =
      record {
        order = by_client e ∷ h.order;
        legal = (may, h.legal);
        client_is = ap (λ es. es ++ e ∷ []) h.client_is;
        server_is = h.server_is;
        hand_is = h.hand_is;
        released_is = same ∙ h.released_is;
        taken_is = h.taken_is;
      }

  -- a release of these frames
  abbrev pub client_releases : (count : ℕ) (fs : List ℕ) → (point h).released + count ≡ shape.base + length (cf ++ fs) → taken_of (cf ++ fs) shape h.order ≡ taken_of cf shape h.order
      → HasHistory shape (ce ++ client.Release count ∷ []) (cf ++ fs) se sf he
  client_releases count fs long same =
      record {
        order = by_client (client.Release count) ∷ h.order;
        legal = (tt, h.legal);
        client_is = ap (λ es. es ++ client.Release count ∷ []) h.client_is;
        server_is = h.server_is;
        hand_is = h.hand_is;
        released_is = long;
        taken_is = same ∙ h.taken_is;
      }

  -- an event of the server, which then has these frames
  abbrev pub server_adds : (e : ServerEvent) (sf' : List ℕ) → ServerMay (point h) (length (client_of h.order)) e → (after_server (point h) e).released ≡ (point h).released
      → with_taken cf shape.base (point h) sf e ≡ sf' → HasHistory shape ce cf (se ++ e ∷ []) sf' he
  server_adds e sf' may same taken =
      record {
        order = by_server e ∷ h.order;
        legal = (may, h.legal);
        client_is = h.client_is;
        server_is = ap (λ es. es ++ e ∷ []) h.server_is;
        hand_is = h.hand_is;
        released_is = same ∙ h.released_is;
        taken_is = ap (λ fs. with_taken cf shape.base (point h) fs e) h.taken_is ∙ taken;
      }

  abbrev pub hand_adds : (e : HandEvent) → HandMay (length (client_of h.order)) (met_in h.order) (clients_at h.order) e → (after_hand (point h) e).released ≡ (point h).released
      → HasHistory shape ce cf se sf (he ++ e ∷ [])
  hand_adds e may same =
      record {
        order = by_hand e ∷ h.order;
        legal = (may, h.legal);
        client_is = h.client_is;
        server_is = h.server_is;
        hand_is = ap (λ es. es ++ e ∷ []) h.hand_is;
        released_is = same ∙ h.released_is;
        taken_is = h.taken_is;
      }
