-- A whole run: first what an opening puts out, and then the turns.
use Rattle.std.proofs.Common.{◌≡◌, ◌∙◌, ℕ, List, [], Ok, Err, ap, inl, inr, refl, subst}
use Rattle.std.specs.Io.KnownBytes.{Appends}
use Rattle.vr_disk.specs.declared.disk.SectorDisk as of_disk
use Rattle.vr_edge.specs.Failing.{EndsFailed}
use Rattle.vr_edge.specs.Told.{GivesNext}
use Rattle.vr_edge.specs.declared.clock.Clock as of_clock
use Rattle.vr_edge.specs.declared.link.Link as of_link
use Rattle.vr_edge.specs.declared.sink.Sink as of_sink
use Rattle.vr_mail.specs.Sends.{Sends}
use Rattle.vr_msg.specs.declared.output.Output.{Output}
use Rattle.vr_serve.specs.Outputs.{datagrams_for, numbers_after, text_from}
use Rattle.vr_serve.specs.Runs.{AreTurnsCut, HaveTurns, PutsFirst, PutsFront}
use Rattle.vr_serve.specs.Sending.{PutsOut}
use Rattle.vr_serve.specs.Serving.{Serves, TakesTurns, ending, standing}
use Rattle.vr_serve.specs.declared.member.Member as of_member
use Rattle.vr_serve.specs.declared.objects.Objects.{Objects}
use Rattle.vr_serve.specs.declared.post.Post.{Post}
use Rattle.vr_serve.specs.declared.stop.Stop.{Stop}
use Rattle.vr_serve.specs.declared.stop.Stop.TheVariants as stop
use Rattle.vr_serve.proofs.Ending.{causes_err, causes_later, causes_ok, causes_put, put_spares, same_stop}
use Rattle.vr_serve.proofs.Turning.{served, served_cut}

puts_first : {K L : Type 0} (k : of_sink.Ghosts K) (l : of_link.Ghosts L) (begun post : Post) (sink sink' : K) (link link' : L) (first : List Output) (t : Unit {0})
    → begun.number ≡ 0 → begun.clients.items ≡ [] → PutsOut k l begun post sink sink' link link' first (Ok t)
    → PutsFirst first (k.taken sink) (k.taken sink') (l.sent link) (l.sent link')
puts_first k l begun post sink sink' link link' first t zero none put = record {
  taken = subst (λ m. Appends (k.taken sink) (k.taken sink') (text_from m first)) zero put.taken;
  sent = subst (λ cs. Sends (datagrams_for cs first) (l.sent link) (l.sent link')) none put.sent;
}

pub serves_ok : {M D K L C : Type 0} (m : of_member.Ghosts M) (d : of_disk.Ghosts D) (k : of_sink.Ghosts K) (l : of_link.Ghosts L) (c : of_clock.Ghosts C)
    {version cluster turns last after : ℕ} {first : List Output} {member member' : M} {disk disk' : D} {link link' : L} {clock mid clock' : C} {sink sink' : K}
    {o o' : Objects M D K L} {begun post post' : Post} {t : Unit {0}}
    → TakesTurns m d k l c version cluster turns last o o' post post' mid clock' (Ok after) → PutsOut k l begun post sink o.sink.now link o.link.now first (Ok t)
    → begun.number ≡ 0 → begun.clients.items ≡ [] → GivesNext (c.left clock) (c.left mid) last → member ≡ o.member.now → disk ≡ o.disk.now
    → member' ≡ o'.member.now → disk' ≡ o'.disk.now → link' ≡ o'.link.now → sink' ≡ o'.sink.now
    → Serves m d k l c version cluster turns first member member' disk disk' link link' clock clock' sink sink' (Ok tt)
serves_ok m d k l c {version} {cluster} {turns} {last} {after} {first} {member} {member'} {disk} {disk'} {link} {link'} {clock} {mid} {clock'} {sink} {sink'} {o} {o'} {begun} {post} {post'} {t} all put zero none next was_member was_disk is_member is_disk is_link is_sink =
    rw (was_member, was_disk, is_member, is_disk, is_link, is_sink) (record {
      running = all.kept.running;
      causes = causes_ok after tt (causes_later _ _ _ _ _ _ _ _ _ (Ok after) refl put.causes.write put.causes.link all.kept.causes);
      linked = λ e. cc;
      done = served m.does version cluster turns last after post.number post.clients.items first o.member.now (d.told o.disk.now) (c.left clock) (c.left mid) (c.left clock')
          (l.received link) (l.received o'.link.now) (k.taken sink) (k.taken o.sink.now) (l.sent link) (l.sent o.link.now) (standing m d k l o' post')
          (puts_first k l begun post sink o.sink.now link o.link.now first t zero none put) (put.number ∙ ap (λ n. numbers_after n first) zero)
          (ap (λ v. v.items) put.clients ∙ none) next
          (subst (λ got. HaveTurns m.does version cluster turns last after (standing m d k l o post) (standing m d k l o' post') (c.left mid) (c.left clock') got (l.received o'.link.now))
          put.kept.received all.turned);
      cut = tt;
      attached = all.kept.attached ∙ put.kept.attached;
    })

pub serves_err : {M D K L C : Type 0} (m : of_member.Ghosts M) (d : of_disk.Ghosts D) (k : of_sink.Ghosts K) (l : of_link.Ghosts L) (c : of_clock.Ghosts C)
    {version cluster turns last : ℕ} {first : List Output} {member member' : M} {disk disk' : D} {link link' : L} {clock mid clock' : C} {sink sink' : K}
    {o o' : Objects M D K L} {begun post post' : Post} {t : Unit {0}} (why : Stop)
    → TakesTurns m d k l c version cluster turns last o o' post post' mid clock' (Err why) → PutsOut k l begun post sink o.sink.now link o.link.now first (Ok t)
    → begun.number ≡ 0 → begun.clients.items ≡ [] → GivesNext (c.left clock) (c.left mid) last → member ≡ o.member.now → disk ≡ o.disk.now
    → member' ≡ o'.member.now → disk' ≡ o'.disk.now → link' ≡ o'.link.now → sink' ≡ o'.sink.now
    → Serves m d k l c version cluster turns first member member' disk disk' link link' clock clock' sink sink' (Err why)
serves_err m d k l c {version} {cluster} {turns} {last} {first} {member} {member'} {disk} {disk'} {link} {link'} {clock} {mid} {clock'} {sink} {sink'} {o} {o'} {begun} {post} {post'} {t} why all put zero none next was_member was_disk is_member is_disk is_link is_sink =
    rw (was_member, was_disk, is_member, is_disk, is_link, is_sink) (record {
      running = tt;
      causes = causes_later _ _ _ _ _ _ _ _ _ (Err why) refl put.causes.write put.causes.link (causes_err why all.kept.causes);
      linked = λ e. subst (λ got. EndsFailed got (l.received o'.link.now)) put.kept.received (all.linked (ap (λ s. Err s) (same_stop why stop.Link e)));
      done = tt;
      cut = inr (served_cut m.does m.halts version cluster turns last post.number post.clients.items first o.member.now (d.told o.disk.now) (c.left clock) (c.left mid) (c.left clock')
          (l.received link) (l.received o'.link.now) (k.taken sink) (k.taken o.sink.now) (l.sent link) (l.sent o.link.now) (ending d k l o' why)
          (puts_first k l begun post sink o.sink.now link o.link.now first t zero none put) (put.number ∙ ap (λ n. numbers_after n first) zero)
          (ap (λ v. v.items) put.clients ∙ none) next
          (subst (λ got. AreTurnsCut m.does m.halts version cluster turns last (standing m d k l o post) (c.left mid) (c.left clock') got (l.received o'.link.now) (ending d k l o' why))
          put.kept.received all.cut));
      attached = all.kept.attached ∙ put.kept.attached;
    })

-- where the first outputs weren't put out, the clock isn't asked, and no turn begun
pub serves_unput : {M D K L C : Type 0} (m : of_member.Ghosts M) (d : of_disk.Ghosts D) (k : of_sink.Ghosts K) (l : of_link.Ghosts L) (c : of_clock.Ghosts C)
    {version cluster turns : ℕ} {first : List Output} {member : M} {disk : D} {link link' : L} {clock : C} {sink sink' : K} {begun post : Post} (why : Stop)
    → PutsOut k l begun post sink sink' link link' first (Err why) → begun.number ≡ 0 → begun.clients.items ≡ []
    → Serves m d k l c version cluster turns first member member disk disk link link' clock clock sink sink' (Err why)
serves_unput m d k l c {version} {cluster} {turns} {first} {member} {disk} {link} {link'} {clock} {sink} {sink'} {begun} {post} why put zero none = record {
  running = tt;
  causes = causes_put (d.faults disk) (d.faults disk) _ _ _ _ (Err why) refl put.causes;
  linked = λ e. absurd (put.unlinked e);
  done = tt;
  cut = inl (record {
    why = put_spares _ _ _ _ (Err why) why refl put.causes;
    disk = refl;
    clock = refl;
    received = put.kept.received;
    front = subst (λ cs. PutsFront (text_from 0 first) (datagrams_for cs first) (k.taken sink) (k.taken sink') (l.sent link) (l.sent link')) none
        (subst (λ n. PutsFront (text_from n first) (datagrams_for begun.clients.items first) (k.taken sink) (k.taken sink') (l.sent link) (l.sent link')) zero put.front);
  });
  attached = put.kept.attached;
}
