-- What is the same over two disks that read alike.
use Rattle.std.proofs.Common.{ℕ, ◌≡◌, ◌∙◌, refl, ap, subst, Option, Some, None}
use Rattle.std.specs.Option.{option_map}
use Rattle.vr_disk.specs.DiskState.{Face}
use Rattle.vr_super.specs.Copies.{SuperValue}
use Rattle.vr_rules.specs.Opening.{blank, opened, opening}
use Rattle.vr_rules.specs.Rules.{react}
use Rattle.vr_rules.specs.Sectors.{sectors_by}
use Rattle.vr_rules.specs.Steps.{Step}
use Rattle.law_damage.specs.Laws as law
use Rattle.law_damage.specs.Laws.{LeavesAlike}
use Rattle.law_damage.proofs.Effects.{effect_alike}
use Rattle.law_damage.proofs.Seeing.{sees}
use Rattle.law_damage.proofs.Twins.{Twins, twins}
use Rattle.law_damage.proofs.Words.{Sees, t_each, t_opening, t_react}

twins_see : (v : ℕ) → Sees (sectors_by v) (Twins v)
twins_see v = record {
  header = λ f g t. (sees v f g t.alike).header;
  entry = λ f g t. (sees v f g t.alike).entry;
  blank = λ f g t. (sees v f g t.alike).blank;
  block = λ f g t. (sees v f g t.alike).block;
  loaded = λ f g t. (sees v f g t.alike).loaded;
  after = effect_alike v;
}

pub readings : law.ReadingsAlike
readings v f g a = sees v f g a

pub steps : law.StepsAlike
steps v f g r e h k a = let x = (t_react (sectors_by v) (Twins v) (twins_see v) e).each r f g (twins v f g h k a) in record { step = x.step; left = x.left.alike }

pub events : law.EventsAlike
events v f g r es h k a =
    let x = (t_each (sectors_by v) (Twins v) (twins_see v) react es (t_react (sectors_by v) (Twins v) (twins_see v))).each r f g (twins v f g h k a) in
    record { step = x.step; left = x.left.alike }

opens_by : (v : ℕ) (f g : Face) → Twins v f g → (o : Option SuperValue)
    → option_map (λ u. opening u (sectors_by v) (blank u) g) o ≡ option_map (λ u. opening u (sectors_by v) (blank u) f) o
opens_by v f g t None = refl
opens_by v f g t (Some u) = ap Some ((t_opening (sectors_by v) (Twins v) (twins_see v) u).each (blank u) f g t).step

left_by : (v : ℕ) (f g : Face) → Twins v f g → (o : Option SuperValue) (x : Step) → option_map (λ u. opening u (sectors_by v) (blank u) f) o ≡ Some x → LeavesAlike v f g x.script
left_by v f g t None x e = absurd cc
left_by v f g t (Some u) x e =
    let same : opening u (sectors_by v) (blank u) f ≡ x = cc in
    subst (λ (z : Step). LeavesAlike v f g z.script) same (((t_opening (sectors_by v) (Twins v) (twins_see v) u).each (blank u) f g t).left.alike)

pub openings : law.OpeningsAlike
unfolding opened
openings v f g h k a =
    let t = twins v f g h k a in
    record {
      found = ap (option_map (λ u. opening u (sectors_by v) (blank u) g)) (sees v f g a).opens ∙ opens_by v f g t ((sectors_by v).opens f);
      left = left_by v f g t ((sectors_by v).opens f);
    }
