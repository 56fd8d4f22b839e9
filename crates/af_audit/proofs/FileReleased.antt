-- What a client does to its stream block: it releases the frames of its file from the first on, and if none of its calls pokes the block its list has no poke.
use Rattle.std.proofs.Common.{◌≡◌, ℕ, zero, suc, ◌+◌, Bool, true, false, if◌then◌else◌, is_some, fold, List, [], ◌∷◌, ◌++◌, take, drop, length, refl, sym, ap, ◌∙◌, subst, append-nil, take-add}
use Rattle.af_audit.proofs.Common.{ClientCall, Track, after_call, after_calls, both_lawful, client_call_events, client_events_of, client_kept, is_lawful, is_of_commands, is_poke_on, list_any, neither, no, released_by}
use Rattle.af_base.specs.declared.event.ClientCall.TheVariants as call
use Rattle.af_runs.specs.ClientTurns.{called}

-- ## The first words of a file

pub record Begins (file words : List ℕ) : Type 0 where
  pub count : ℕ
  pub is : words ≡ take count file

take_again : (n : ℕ) (xs : List ℕ) → take (length (take n xs)) xs ≡ take n xs
take_again zero xs = refl
take_again (suc n) [] = refl
take_again (suc n) (x ∷ xs) = ap (λ l. x ∷ l) (take_again n xs)

-- words that begin a file are as many of its first words
pub begins_by_length : (file words : List ℕ) → Begins file words → words ≡ take (length words) file
begins_by_length file words b = b.is ∙ sym (take_again b.count file) ∙ ap (λ l. take (length l) file) (sym b.is)

pub begins_none : (file : List ℕ) → Begins file []
begins_none file = record { count = 0; is = refl }

begins_more : (file words : List ℕ) (count : ℕ) → words ≡ take (length words) file → words ++ take count (drop (length words) file) ≡ take (length words + count) file
begins_more file words count is = ap (λ l. l ++ take count (drop (length words) file)) is ∙ sym (take-add (length words) count file)

-- ## Lists without a poke

-- the events of a call on the stream block that doesn't poke it
call_lawful : (shut : Bool) (answer : ClientCall) → is_of_commands answer ≡ false → is_poke_on false answer ≡ false → is_lawful (client_call_events shut answer) ≡ true
call_lawful shut (call.Put front count) stream calm = refl
call_lawful shut (call.Full front) stream calm = refl
call_lawful shut (call.Dead flags) stream calm = refl
call_lawful true (call.Corrupt front rear) stream calm = refl
call_lawful false (call.Corrupt front rear) stream calm = refl
call_lawful shut (call.Cleared flags) stream calm = refl
call_lawful shut (call.Flush count) stream calm = refl
call_lawful shut (call.Gain word) stream calm = refl
call_lawful shut (call.Sent front code argument) stream calm = refl
call_lawful shut (call.SendFull front) stream calm = refl
call_lawful shut (call.SendDead flags) stream calm = refl
call_lawful true (call.SendCorrupt front rear) stream calm = refl
call_lawful false (call.SendCorrupt front rear) stream calm = refl
call_lawful shut (call.Status word) stream calm = refl
call_lawful shut (call.Poke true word value) stream calm = no (sym stream)
call_lawful shut (call.Poke false word value) stream calm = no (sym calm)

-- ## What holds of a client's side

-- a client released the first words of its file, and poked nothing
pub record IsFromFile (t : Track) : Type 0 where
  pub begins : Begins t.file t.stream.released
  pub tame : is_lawful t.stream.events ≡ true

still : (t : Track) → Begins t.file t.stream.released → Begins t.file (t.stream.released ++ [])
still t b = subst (Begins t.file) (sym (append-nil t.stream.released)) b

-- the words released begin the file after a call on the stream block
call_begins : (t : Track) (answer : ClientCall) → is_of_commands answer ≡ false → Begins t.file t.stream.released → Begins t.file (t.stream.released ++ released_by t answer)
call_begins t (call.Put front count) stream b = record { count = length t.stream.released + count; is = begins_more t.file t.stream.released count (begins_by_length t.file t.stream.released b) }
call_begins t (call.Sent front code argument) stream b = no (sym stream)
call_begins t _ stream b = still t b

after_one : (t : Track) (answer : ClientCall) → is_poke_on false answer ≡ false → IsFromFile t → IsFromFile (after_call t answer)
after_one t answer calm h = by_side (is_of_commands answer) refl
  where
    by_side : (b : Bool) → is_of_commands answer ≡ b → (let u : Track = if b then record t { commands = called answer (released_by t answer) t.commands } else record t { stream = called answer (released_by t answer) t.stream } in IsFromFile (record u { client = (after_call t answer).client }))
    by_side true is = record { begins = h.begins; tame = h.tame }
    by_side false is = record {
      begins = call_begins t answer is h.begins;
      tame = both_lawful t.stream.events (client_events_of t.stream.shape.frames t.stream.shape.base t.stream.events answer) h.tame (call_lawful (is_some (client_kept t.stream.shape.frames t.stream.shape.base t.stream.events).shut) answer is calm);
    }

after_all : (t : Track) (calls : List ClientCall) → list_any (is_poke_on false) calls ≡ false → IsFromFile t → IsFromFile (fold after_call t calls)
after_all t [] calm h = h
after_all t (answer ∷ calls) calm h =
    let two = neither (is_poke_on false answer) (list_any (is_poke_on false) calls) calm in
    after_all (after_call t answer) calls two.1 (after_one t answer two.0 h)

-- after a turn without a poke on the stream block a client still released the first words of its file, and poked nothing
pub calls_from_file : (t : Track) (calls : List ClientCall) → list_any (is_poke_on false) calls ≡ false → IsFromFile t → IsFromFile (after_calls t calls)
calls_from_file t calls calm h = let a = after_all t calls calm h in record { begins = a.begins; tame = a.tame }
