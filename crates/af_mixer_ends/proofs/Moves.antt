-- What is so over some links is so over all links that lead to the same objects.
use Rattle.std.proofs.Common.{◌≡◌, ◌≤◌, Option, List, length, refl, sym, ◌∙◌, subst}
use Rattle.atomic_table.specs.Seated.{TableId}
use Rattle.af_cblk.specs.Sides.{Made}
use Rattle.af_engine.specs.Shares.{SharedState, AreLinksOf}
use Rattle.af_fast.specs.Mixer.{MixerState, IsLinked}
use Rattle.af_link.specs.Linked.{AreLinked}
use Rattle.af_link.specs.Names.{IsStreamOf}
use Rattle.af_link.specs.declared.links.Links.{Links}
use Rattle.af_link.specs.declared.names.StreamNames.{StreamNames}
use Rattle.af_normal.specs.Order.{HaveHands, IsInOrder, IsTied}
use Rattle.af_normal.specs.State.{NormalState}

-- some links that lead to these objects
abbrev pub links_of : SharedState → Links
links_of s = record {
  queue = record { ref_ptr = (0, 0); now = s.queue };
  streams = record { ref_ptr = (0, 0); now = s.streams };
  commands = record { ref_ptr = (0, 0); now = s.commands };
  pipe = record { ref_ptr = (0, 0); now = s.pipe };
  report = record { ref_ptr = (0, 0); now = s.report };
}

pub lead : (s : SharedState) → AreLinksOf s (links_of s)
lead s = record { queue_is = refl; streams_are = refl; commands_are = refl; pipe_is = refl; report_is = refl }

module _ (s : SharedState) (a b : Links) (x : AreLinksOf s a) (y : AreLinksOf s b) where
  streams : a.streams.now ≡ b.streams.now
  streams = x.streams_are ∙ sym y.streams_are

  commands : a.commands.now ≡ b.commands.now
  commands = x.commands_are ∙ sym y.commands_are

  linked_moves : (key : Option StreamNames) (queue report : TableId) (pipe : Made) → AreLinked a key queue report pipe → AreLinked b key queue report pipe
  linked_moves key queue report pipe l = record {
    names = (l.names.0, l.names.1, l.names.2 ∙ streams);
    queue_is = l.queue_is ∙ x.queue_is ∙ sym y.queue_is;
    report_is = l.report_is ∙ x.report_is ∙ sym y.report_is;
    pipe_is = l.pipe_is ∙ x.pipe_is ∙ sym y.pipe_is;
  }

  pub fast_moves : (m : MixerState) → IsLinked a m → IsLinked b m
  fast_moves m l = linked_moves _ _ _ _ l

  tied_moves : (m : NormalState) → IsTied a m → IsTied b m
  tied_moves m t = record {
    sound = t.sound;
    sizes = record {
      frames = t.sizes.frames;
      normal = t.sizes.normal;
      few = t.sizes.few;
      settings = t.sizes.settings;
      streams_are = t.sizes.streams_are;
      commands_are = t.sizes.commands_are;
      blocks = (subst (λ (l : List Made). length m.tracks ≤ length l) streams t.sizes.blocks.0, subst (λ (l : List Made). length m.tracks ≤ length l) commands t.sizes.blocks.1);
      scales = t.sizes.scales;
      pipe_is = t.sizes.pipe_is;
    };
    proxies = record {
      there = t.proxies.there;
      streams_of = λ i v here. subst (λ (l : List Made). IsStreamOf l i v) streams (t.proxies.streams_of i v here);
      commands_of = λ i v here. subst (λ (l : List Made). IsStreamOf l i v) commands (t.proxies.commands_of i v here);
    };
    out = t.out;
    linked = linked_moves _ _ _ _ t.linked;
  }

  pub order_moves : (m : NormalState) → IsInOrder a m → IsInOrder b m
  order_moves m o = record {
    tied = tied_moves m o.tied;
    small = o.small;
    looks = o.looks;
    none_yet = o.none_yet;
    hands = λ some. subst (λ (l : List Made). HaveHands l (length m.tracks) m.hands) streams (o.hands some);
    turns = o.turns;
    takes = o.takes;
    idle = o.idle;
  }
