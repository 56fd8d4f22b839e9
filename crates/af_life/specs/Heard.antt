-- What a turn knows of a track's stream, and the START that this settles.
use Rattle.std.specs.Prelude.{ℕ, ◌+◌, ◌-◌, ◌==◌, nat_le, min, Bool, false, if◌then◌else◌, is_some, Option, Some, None}
use Rattle.af_base.specs.declared.report.SlotReport.{SlotReport}
use Rattle.af_model.specs.Cycles.{Listed, kept}
use Rattle.af_model.specs.Reports.{report_at}
use Rattle.af_model.specs.ServerCalls.{flushes_by}
use Rattle.af_life.specs.declared.kept.Counts.{Counts}
use Rattle.af_life.specs.declared.kept.Heard.{Heard}
use Rattle.af_life.specs.declared.kept.TrackKept.{TrackKept}
use Rattle.af_life.specs.Kept.{Outside, Learnt, no_counts, is_home, slot_number}

-- ## What is known of a proxy

-- what is heard of a stream by these numbers, with the looks since the last turn
abbrev pub heard_with : (consumed flush_seen : ℕ) → Bool → Counts → Heard
heard_with consumed flush_seen shut looks = record {
  known = record { consumed = consumed; fulls = looks.fulls; partials = looks.partials; empties = looks.empties; shut = shut };
  flush_seen = flush_seen;
}

-- what a proxy knows by its list, without looks; the consumed count ends at 2 ^ 63 - 1, and the flush count is that of the last flush noticed
abbrev pub known_by : Listed → Heard
known_by s = let k = kept s in heard_with (min 9223372036854775807 k.consumed) (flushes_by s.shape.wrap k.noticed) (is_some k.shut) no_counts

-- what a turn learns by the report and the lists of the stream proxies
abbrev pub learnt : Outside → Learnt
learnt o = record { report = o.report; own = λ i. known_by (o.streams i) }

abbrev pub counts_in : SlotReport → Counts
counts_in r = record { fulls = r.fulls; partials = r.partials; empties = r.empties }

-- how far some counts have grown
abbrev pub grown : Counts → Counts → Counts
grown now before = record { fulls = now.fulls - before.fulls; partials = now.partials - before.partials; empties = now.empties - before.empties }

-- the report speaks of this attachment, and not of one before it
abbrev pub is_reported : SlotReport → TrackKept → Bool
is_reported r s = r.generation == s.generation

-- ## What a turn hears

-- what is heard of a proxy that is home: what it knows, with the mixer's own looks
abbrev pub heard_at_home : Heard → TrackKept → Heard
heard_at_home own s = heard_with own.known.consumed own.flush_seen own.known.shut s.own

-- What is heard of a proxy elsewhere: what the report says, with the looks since the one before; if that is of an earlier attachment, what the proxy knew when it was attached
abbrev pub heard_elsewhere : SlotReport → TrackKept → Heard
heard_elsewhere r s = if is_reported r s then heard_with r.consumed r.flush_seen r.shut (grown (counts_in r) s.reported) else s.at_attach

-- what is heard of a proxy, at home or elsewhere
unfoldable pub heard_by : Heard → SlotReport → TrackKept → Heard
heard_by own r s = if is_home s.holder then heard_at_home own s else heard_elsewhere r s

-- the track once its looks were heard of: none of them counts again
unfoldable pub noted : SlotReport → TrackKept → TrackKept
noted r s =
    if is_home s.holder then record s { own = no_counts }
    else if is_reported r s then record s { reported = counts_in r }
    else s

-- a START waits for a flush count that is reached
abbrev pub is_reached : ℕ → Option ℕ → Bool
is_reached flush_seen None = false
is_reached flush_seen (Some count) = nat_le count flush_seen

-- a START whose flush count is reached is settled
unfoldable pub settled_at : ℕ → TrackKept → TrackKept
settled_at flush_seen s = if is_reached flush_seen s.awaits then record s { awaits = None; settled = s.settled + 1 } else s

-- ## The same of the track i

-- what the report says of a track's slot
abbrev pub slot_reported : Learnt → TrackKept → SlotReport
slot_reported k s = report_at k.report.slots (slot_number s)

abbrev pub heard : Learnt → ℕ → TrackKept → Heard
heard k i s = heard_by (k.own i) (slot_reported k s) s

-- the track when its commands are looked at
abbrev pub ready : Learnt → ℕ → TrackKept → TrackKept
ready k i s = settled_at (heard k i s).flush_seen (noted (slot_reported k s) s)
