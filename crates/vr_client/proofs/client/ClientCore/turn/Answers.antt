use Rattle.std.proofs.Common.{◌≡◌, ◌∙◌, ap, rules, subst, sym}
use Rattle.vr_mail.specs.Sends.{Sends}
use Rattle.vr_client.specs.Asking.{Hears, IsSilent, ask_in, go_on_port, go_on_to, moved, moved_to, requests}
use Rattle.vr_client.proofs.Keeping.{keeps_later}
use Rattle.vr_client.proofs.Turns.{turned_none}
use Rattle.vr_client.proofs.client.ClientCore.turn.Goals as goal

pub returns : goal.returns
returns g c =
    let was = c.args.self.now in
    let h = c.in_ok-heard.heard in
    let k1 = c.hear.ensures.core in
    let k2 = keeps_later was c.hear.new.self c.follow.new.self k1 c.follow.ensures.reaches.core in
    let same : g.L.Link.received c.go_on.new.link ≡ g.L.Link.received c.hear.new.link = c.go_on.ensures.received ∙ c.follow.ensures.reaches.received in
    let hears : Hears was.version was.cluster was.n c.args.name.now (g.L.Link.received c.args.link.now) (g.L.Link.received c.go_on.new.link) h =
    subst (λ r. Hears was.version was.cluster was.n c.args.name.now (g.L.Link.received c.args.link.now) r h) (sym same) c.in_ok-heard.ensures.heard in
    let silent : IsSilent h = search rules in
    let is : c.follow.new.self.port ≡ moved h was.port = c.follow.ensures.reaches.port ∙ ap (λ p. moved h p) c.hear.ensures.stays in
    let first : Sends (requests was.bytes.items (moved_to h)) (g.L.Link.sent c.args.link.now) (g.L.Link.sent c.follow.new.link) =
    subst (λ u. Sends (requests was.bytes.items (moved_to h)) u (g.L.Link.sent c.follow.new.link)) c.hear.ensures.sent
    (subst (λ b. Sends (requests b (moved_to h)) (g.L.Link.sent c.hear.new.link) (g.L.Link.sent c.follow.new.link)) k1.bytes c.follow.ensures.reaches.sent) in
    let goes : c.go_on.new.self.port ≡ go_on_port was.n c.args.turns c.args.done c.follow.new.self.port =
    c.go_on.ensures.port ∙ ap (λ n. go_on_port n c.args.turns c.args.done c.follow.new.self.port) k2.n in
    let second : Sends (requests was.bytes.items (go_on_to was.n c.args.turns c.args.done c.follow.new.self.port)) (g.L.Link.sent c.follow.new.link) (g.L.Link.sent c.go_on.new.link) =
    subst (λ n. Sends (requests was.bytes.items (go_on_to n c.args.turns c.args.done c.follow.new.self.port)) (g.L.Link.sent c.follow.new.link) (g.L.Link.sent c.go_on.new.link)) k2.n
    (subst (λ b. Sends (requests b (go_on_to c.follow.new.self.n c.args.turns c.args.done c.follow.new.self.port)) (g.L.Link.sent c.follow.new.link) (g.L.Link.sent c.go_on.new.link)) k2.bytes c.go_on.ensures.sent) in
    record {
      core = keeps_later was c.follow.new.self c.go_on.new.self k2 c.go_on.ensures.core;
      turned = turned_none (ask_in was c.args.name.now c.args.turns) c.args.done was.port c.follow.new.self.port c.go_on.new.self.port
          (g.L.Link.sent c.args.link.now) (g.L.Link.sent c.follow.new.link) (g.L.Link.sent c.go_on.new.link)
          (g.L.Link.received c.args.link.now) (g.L.Link.received c.go_on.new.link) h hears silent is first goes second;
      failed = tt;
      stays = tt;
      cause = search rules;
      attached = search rules;
    }
