-- What the steps of the hand and of a meeting make of the history, if the client has not poked.
use Rattle.std.proofs.Common.{ℕ, ◌-◌, ◌^◌, ◌<◌, bit_or, List, [], length, set, refl, ap, ◌∙◌, arith, append-nil}
use Rattle.af_cblk.proofs.Common.{Shape, at_few, client_adds, or_of_32, point}
use Rattle.af_base.specs.declared.event.ClientEvent.TheVariants as client
use Rattle.af_base.specs.declared.event.ServerEvent.TheVariants as server
use Rattle.af_base.specs.declared.event.HandEvent.TheVariants as hand
use Rattle.af_cblk.specs.declared.view.ClientPart.{ClientPart}
use Rattle.af_cblk.specs.declared.view.ServerPart.{ServerPart}
use Rattle.af_cblk.specs.declared.view.HandPart.{HandPart}
use Rattle.af_cblk.specs.Parts.{client_met, server_did, hand_set, hand_met}
use Rattle.af_cblk.specs.Rule.{Stands}
use Rattle.af_cblk.proofs.QuietSteps.{at, longer, quiet_server, quiet_hand, same_word}

module _ (k : Shape) (words : List ℕ) (c : ClientPart) (s : ServerPart) (h : HandPart) (i : Stands k words c s h) where
  pub hand_sets : Stands k (set words 4 (bit_or (at words 4) 8)) c s (hand_set h)
  hand_sets =
      let p = point i.history in
      quiet_hand k words (set words 4 (bit_or (at words 4) 8)) c s h i (hand.SetFlags 8) i.mets (omega arith) refl (
        i.tally,
        ap (λ (ws : List ℕ). set ws 4 (bit_or (at ws 4) 8)) i.words_are,
        i.tally_is,
        record { flush_fits = i.small.flush_fits; flags_fit = or_of_32 p.flags 8 i.small.flags_fit (let e : 8 < 2 ^ 32 = omega arith in e); gains_fit = i.small.gains_fit; status_fit = i.small.status_fit },
      )

  -- ## Meetings

  pub client_learns : Stands k (set words 0 (at words 0)) (client_met c s.events) s h
  client_learns =
      record {
        history = client_adds i.history (client.Learn (length s.events)) (let e = ap length i.history.server_is in omega arith) refl;
        settled = i.settled;
        tally = i.tally;
        cells = i.cells;
        words_are = same_word 0 words ∙ i.words_are;
        tally_is = i.tally_is;
        small = i.small;
        mets = longer i.history.order (client.Learn (length s.events)) i.mets;
        learnt = ([], append-nil s.events);
        flushed = i.flushed;
        flush_known = i.flush_known;
        client_knows = i.client_knows;
        server_knows = i.server_knows;
      }

  pub server_learns : Stands k (set words 0 (at words 0)) c (server_did s (server.Learn (length c.events - 1))) h
  server_learns =
      quiet_server k words (set words 0 (at words 0)) c s h i (server.Learn (length c.events - 1)) (let e = ap length i.history.client_is in omega arith) refl (λ _ _ _ _. refl)
      (i.tally, same_word 0 words ∙ i.words_are, i.tally_is, i.small)

  pub hand_meets : Stands k (set words 0 (at words 0)) c s (hand_met h (length c.events))
  hand_meets =
      quiet_hand k words (set words 0 (at words 0)) c s h i (hand.Met (length c.events)) (i.mets, (let a = at_few i.history.order in let b = ap length i.history.client_is in omega arith)) (let b = ap length i.history.client_is in omega arith) refl
      (i.tally, same_word 0 words ∙ i.words_are, i.tally_is, i.small)
