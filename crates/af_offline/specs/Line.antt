-- The printed lines.
use Rattle.std.specs.Prelude.{ℕ, List, ◌++◌, codes, if◌then◌else◌}
use Rattle.std.specs.Fmt.{decimal}
use Rattle.af_audit.specs.declared.verdict.Refusal.{Refusal as JournalRefusal}
use Rattle.af_audit.specs.declared.verdict.Refusal.TheVariants as judged
use Rattle.af_script.specs.FaultText.{fault_text}
use Rattle.af_offline.specs.Recorded.{Counts}
use Rattle.af_offline.specs.Looped.{Rolls}
use Rattle.af_offline.specs.declared.status.Ending.{Ending}
use Rattle.af_offline.specs.declared.status.Ending.TheVariants.{Limit, Judged}
use Rattle.af_offline.specs.declared.status.Refusal.{Refusal}
use Rattle.af_offline.specs.declared.status.Refusal.TheVariants.{Usage, Script, File}
use Rattle.af_offline.specs.declared.status.Role.{Role}
use Rattle.af_offline.specs.declared.status.Role.TheVariants as role
use Rattle.af_offline.specs.declared.status.Why.{Why}
use Rattle.af_offline.specs.declared.status.Why.TheVariants.{Missing, Long, Ragged, Short, Total}

-- the line of a recording
abbrev pub counts_text : Counts → List ℕ
counts_text counts = codes "supplied " ++ (decimal counts.supplied ++ (codes " read " ++ (decimal counts.read ++ (codes " lost " ++ (decimal counts.lost ++ codes "\n")))))

-- the line of a loop
abbrev pub rolls_text : Rolls → List ℕ
rolls_text rolls = codes "cycles " ++ (decimal rolls.cycles ++ (codes " filled " ++ (decimal rolls.filled ++ (codes " shut " ++ (decimal (if rolls.is_shut then 1 else 0) ++ codes "\n")))))

-- the line of a play that was cut off at the limit of its cycles
abbrev pub limit_line : ℕ → List ℕ
limit_line cycles = codes "limit: cycles " ++ (decimal cycles ++ codes "\n")

-- the line of a journal and a sound that are legal
abbrev pub legal_text : List ℕ
legal_text = codes "legal\n"

-- the line of a journal or a sound that is refused: at a line of the text, at a round and a party, or at a byte
abbrev pub judged_text : JournalRefusal → List ℕ
judged_text (judged.Text line) = codes "refused: line " ++ (decimal line ++ codes "\n")
judged_text (judged.Round round party) = codes "refused: round " ++ (decimal round ++ (codes " party " ++ (decimal party ++ codes "\n")))
judged_text (judged.Pcm at) = codes "refused: pcm " ++ (decimal at ++ codes "\n")

-- the line of a work that is over and isn't done
abbrev pub ending_text : Ending → List ℕ
ending_text (Limit cycles) = limit_line cycles
ending_text (Judged refusal) = judged_text refusal

-- the words for a file's role
abbrev pub role_text : Role → List ℕ
role_text role.Script = codes "script"
role_text (role.Track number) = codes "track " ++ decimal number
role_text role.Pcm = codes "pcm"
role_text role.Journal = codes "journal"

-- the words for what is wrong with a file
abbrev pub why_text : Why → List ℕ
why_text Missing = codes "missing"
why_text Long = codes "long"
why_text (Ragged length) = codes "ragged " ++ decimal length
why_text (Short frames asked) = codes "short " ++ (decimal frames ++ (codes " " ++ decimal asked))
why_text (Total bytes) = codes "total " ++ decimal bytes

-- the line of a refusal
abbrev pub refusal_text : Refusal → List ℕ
refusal_text Usage = codes "usage: render SCRIPT OUT or play SCRIPT OUT JOURNAL or verify SCRIPT OUT JOURNAL or generate NUMBER SCRIPT OUT or record IN OUT N F K or loop IN OUT F K START END COUNT or trace SCRIPT OUT JOURNAL LOG ROOM\n"
refusal_text (Script fault) = codes "script: " ++ (fault_text fault ++ codes "\n")
refusal_text (File fault) = codes "file: " ++ (role_text fault.role ++ (codes " " ++ (why_text fault.why ++ codes "\n")))
