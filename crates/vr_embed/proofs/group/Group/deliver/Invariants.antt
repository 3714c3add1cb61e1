use Rattle.std.proofs.Common.{◌+◌, ◌≤◌, ◌≡◌}
use Rattle.vr_embed.specs.Groups.{Goes, letters}
use Rattle.vr_embed.proofs.group.Group.deliver.Given as goal

abbrev pub invariant-loop : goal.invariant-loop
invariant-loop l = record {
  goes : Goes (letters l.initial.self.link.next l.self.link.next) l.initial.self l.self;
  least : l.initial.self.link.next ≤ l.self.link.next;
  most : l.self.link.next ≤ l.initial.self.link.next + l.counter;
  counted : l.self.link.next ≡ l.initial.self.link.next + l.counter;
}
