use Rattle.std.proofs.Common.{◌+◌, ◌≡◌, ◌++◌, ◌∷◌, [], List, map, sym, subst}
use Rattle.std.specs.List.{range_with_len}
use Rattle.vr_world.specs.Lying.{hazards}
use Rattle.vr_world.specs.World.{fresh_host}
use Rattle.vr_embed.specs.Groups.{ShowAll}
use Rattle.vr_embed.specs.Members.{kind}
use Rattle.vr_embed.specs.declared.member.Member.{Member}
use Rattle.vr_embed.proofs.Worlds.{shown_more}
use Rattle.vr_embed.proofs.members.new_members.Goals as goal

pub loop-index-preserved : goal.loop-index-preserved
loop-index-preserved c =
    let pushed : c.push.new.self.items ≡ c.loop-index.members.items ++ c.in_ok-member.member ∷ [] = c.in_ok-push.ensures.items in
    let all = shown_more c.loop-index.index c.loop-index.members.items c.in_ok-member.member c.loop-index.invariant.shown c.in_ok-member.ensures in
    record { shown = subst (λ (ms : List Member). ShowAll ms (map (fresh_host hazards kind 3) (range_with_len 0 (c.loop-index.index + 1)))) (sym pushed) all }
