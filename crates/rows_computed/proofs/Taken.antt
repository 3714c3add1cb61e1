-- The entries are whole, and a file of version 1 takes them.
use Rattle.std.proofs.Common.{arith, refl, sym, subst}
use Rattle.vr_base.specs.Bytes.{IsBytes, bytes16}
use Rattle.vr_base.proofs.AreBytes.{IsBytes-name_of}
use Rattle.vr_header.specs.Bodies.{operation_bytes}
use Rattle.vr_header.specs.Text.{is_text}
use Rattle.rows_computed.proofs.Disks.{IsTaken}
use Rattle.rows_computed.proofs.Entries.{asks_later_named, asks_put_named, asks_register_named, first, first_named, put_named, register_named, root_named, second, third}

pub first_taken : IsTaken first
unfolding operation_bytes
first_taken = record {
  whole = record {
    entry = record {
      header = record { command = refl; size = (omega arith, omega arith); view = omega arith; op = (omega arith, omega arith); commit = refl; replica = refl; kind = refl; aux = refl };
      body = record { name = sym register_named; size = refl; first = (λ e. refl, λ e. refl); fits = tt };
    };
    header = record {
      body = refl;
      body_bytes = subst IsBytes register_named (IsBytes-name_of _);
      parent = refl;
      parent_bytes = subst IsBytes root_named (IsBytes-name_of _);
      request_name = refl;
      request_name_bytes = subst IsBytes asks_register_named (IsBytes-name_of _);
      cluster = omega arith;
      client = omega arith;
      request = omega arith;
      view = omega arith;
      op = omega arith;
      commit = omega arith;
      size = (omega arith, omega arith);
      replica = omega arith;
      version = (omega arith, omega arith);
      kind = omega arith;
      aux = omega arith;
    };
  };
  takes = record { most = omega arith; taken = omega arith };
}

pub second_taken : IsTaken second
unfolding operation_bytes is_text bytes16
second_taken = record {
  whole = record {
    entry = record {
      header = record { command = refl; size = (omega arith, omega arith); view = omega arith; op = (omega arith, omega arith); commit = refl; replica = refl; kind = refl; aux = refl };
      body = record { name = sym put_named; size = refl; first = (λ e. absurd cc, λ e. absurd (omega (arith, e))); fits = (refl, refl) };
    };
    header = record {
      body = refl;
      body_bytes = subst IsBytes put_named (IsBytes-name_of _);
      parent = refl;
      parent_bytes = subst IsBytes first_named (IsBytes-name_of _);
      request_name = refl;
      request_name_bytes = subst IsBytes asks_put_named (IsBytes-name_of _);
      cluster = omega arith;
      client = omega arith;
      request = omega arith;
      view = omega arith;
      op = omega arith;
      commit = omega arith;
      size = (omega arith, omega arith);
      replica = omega arith;
      version = (omega arith, omega arith);
      kind = omega arith;
      aux = omega arith;
    };
  };
  takes = record { most = omega arith; taken = omega arith };
}

pub third_taken : IsTaken third
unfolding operation_bytes
third_taken = record {
  whole = record {
    entry = record {
      header = record { command = refl; size = (omega arith, omega arith); view = omega arith; op = (omega arith, omega arith); commit = refl; replica = refl; kind = refl; aux = refl };
      body = record { name = sym register_named; size = refl; first = (λ e. refl, λ e. refl); fits = tt };
    };
    header = record {
      body = refl;
      body_bytes = subst IsBytes register_named (IsBytes-name_of _);
      parent = refl;
      parent_bytes = subst IsBytes first_named (IsBytes-name_of _);
      request_name = refl;
      request_name_bytes = subst IsBytes asks_later_named (IsBytes-name_of _);
      cluster = omega arith;
      client = omega arith;
      request = omega arith;
      view = omega arith;
      op = omega arith;
      commit = omega arith;
      size = (omega arith, omega arith);
      replica = omega arith;
      version = (omega arith, omega arith);
      kind = omega arith;
      aux = omega arith;
    };
  };
  takes = record { most = omega arith; taken = omega arith };
}
