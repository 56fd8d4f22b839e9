use Rattle.std.proofs.Common.{◌≡◌, ◌≤◌, List, ◌++◌, Option, length, drop, take, sym, ap, subst, ◌∙◌, arith}
use Rattle.af_server.specs.Order.{ServerState}
use Rattle.af_stateq.specs.Ends.{Pushes}
use Rattle.af_link.specs.declared.names.StreamNames.{StreamNames}
use Rattle.af_fast.specs.Fits.{NamesBlocks}
use Rattle.af_fast_tests.specs.Ready.{AreWaiting}
use Rattle.af_fast_tests.proofs.Waiting.{written}
use Rattle.af_fast_tests.proofs.table_tests.Table.attach.Goals as goal

pub take_server-requires : goal.take_server-requires
take_server-requires c = subst (AreWaiting c.args.links.now.streams.now) (sym c.deref_mut.ensures.value) c.requires.table.waiting

pub returns-in-None : goal.returns-in-None
returns-in-None c =
    let new : List (Option ServerState) = c.take_server.new.servers in
    let all : take c.args.self.now.servers.len (new ++ drop (length new) c.args.self.now.servers.items) ≡ new =
    written c.args.self.now.servers.len new (drop (length new) c.args.self.now.servers.items) (omega (arith, c.args.self.now.servers.ok.0, c.take_server.auto.servers, ap length c.deref_mut.ensures.value)) in
    record {
      table = record { ready = c.requires.table.ready; pipe_is = c.requires.table.pipe_is; clients_are = c.requires.table.clients_are; waiting = subst (AreWaiting c.args.links.now.streams.now) (sym all) c.take_server.ensures.waiting; few = c.requires.table.few };
    }

pub returns-in-Some : goal.returns-in-Some
returns-in-Some c =
    let new : List (Option ServerState) = c.take_server.new.servers in
    let all : take c.args.self.now.servers.len (new ++ drop (length new) c.args.self.now.servers.items) ≡ new =
    written c.args.self.now.servers.len new (drop (length new) c.args.self.now.servers.items) (omega (arith, c.args.self.now.servers.ok.0, c.take_server.auto.servers, ap length c.deref_mut.ensures.value)) in
    let r = c.requires.table.ready in
    let same = c.attach.ensures.same in
    record {
      table = record {
        ready = record {
          linked = r.linked;
          order = r.order;
          turn = r.turn;
          names = subst (λ (p : Pushes ServerState StreamNames). NamesBlocks p.key c.args.links.now.streams.now) (sym same.0) r.names;
          queue = ap (λ (p : Pushes ServerState StreamNames). p.queue) same.0 ∙ r.queue;
          idle = same.1;
          report = r.report;
        };
        pipe_is = c.requires.table.pipe_is;
        clients_are = c.requires.table.clients_are;
        waiting = subst (AreWaiting c.args.links.now.streams.now) (sym all) c.take_server.ensures.waiting;
        few = subst (λ (p : Pushes ServerState StreamNames). p.number ≤ c.args.self.now.pushes) (sym same.0) c.requires.table.few;
      };
    }
