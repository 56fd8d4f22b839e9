use Rattle.std.proofs.Common.{◌≡◌, ◌+◌, ◌-◌, ◌*◌, ◌++◌, ◌≤◌, length, map, take}
use Rattle.af_record.proofs.Common.{IsInOrder, client_made, packed_word}
use Rattle.af_record.specs.Ends.{IsStopped, LooksFirst, OnlyWrites}
use Rattle.af_record.proofs.putting.put_all.Given as goal

abbrev pub invariant-loop-put : goal.invariant-loop-put
invariant-loop-put g l =
    record {
      made : client_made l.client.pass ≡ l.block;
      order : IsInOrder l.client;
      writes : OnlyWrites l.client.pass.part;
      within : l.put ≤ length l.frames;
      sent : l.client.pass.part.frames ≡ l.fn.client.pass.part.frames ++ map packed_word (take l.put l.frames);
      released : l.client.released ≡ l.fn.client.released + l.put;
      room : 1 ≤ l.put → IsStopped l.client.pass.part → ⊥;
      quiet : l.put ≡ 0 → l.client.pass.part.events ≡ l.fn.client.pass.part.events;
      looked : 1 ≤ l.put → LooksFirst l.fn.client.pass.part.events l.client.pass.part.events;
      few : l.steps ≤ l.fn.steps + 4 * l.put;
    }

abbrev pub decreases-loop-put : goal.decreases-loop-put
decreases-loop-put g l = length l.frames - l.put
