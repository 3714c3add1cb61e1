-- Names of headers, and which entry stands on which. A definition that makes names takes the hash, so that rows can be worked
-- with a cheap one; the program's is the first 16 bytes of SHA-256.
use Rattle.std.specs.Prelude.{ℕ, ◌≡◌, ◌+◌, List, [], replicate, length}
use Rattle.vr_base.specs.declared.sum.Sum.{Sum}
use Rattle.vr_base.specs.Bytes.{name_of}
use Rattle.vr_header.specs.declared.command.Command.TheVariants.{Root, Request}
use Rattle.vr_header.specs.declared.header.Header.{Header}
use Rattle.vr_header.specs.declared.operation.Operation.{Operation}
use Rattle.vr_header.specs.Bodies.{operation_bytes}
use Rattle.vr_header.specs.Spelling.{named_bytes}

-- of bytes 16 to 127
abbrev pub name_by : (List ℕ → List ℕ) → Header → Sum
name_by hash h = record { 0 = hash (named_bytes h) }

abbrev pub header_name : Header → Sum
header_name h = name_by name_of h

abbrev pub no_name : Sum
no_name = record { 0 = replicate 16 0 }

-- what op 1 stands on, in files of either version: of version 1, with no body, all else zero
abbrev pub root_by : (List ℕ → List ℕ) → ℕ → Header
root_by hash cluster = record {
  body = record { 0 = hash [] };
  parent = no_name;
  request_name = no_name;
  cluster = cluster;
  client = 0;
  request = 0;
  view = 0;
  op = 0;
  commit = 0;
  size = 128;
  command = Root;
  replica = 0;
  version = 1;
  kind = 0;
  aux = 0;
}

abbrev pub root_header : ℕ → Header
root_header cluster = root_by name_of cluster

-- the header of a client's request, in a frame of this version
abbrev pub request_by : (List ℕ → List ℕ) → ℕ → ℕ → ℕ → ℕ → Operation → Header
request_by hash version cluster client request operation = record {
  body = record { 0 = hash (operation_bytes operation) };
  parent = no_name;
  request_name = no_name;
  cluster = cluster;
  client = client;
  request = request;
  view = 0;
  op = 0;
  commit = 0;
  size = 128 + length (operation_bytes operation);
  command = Request;
  replica = 0;
  version = version;
  kind = 0;
  aux = 0;
}

abbrev pub request_header : ℕ → ℕ → ℕ → ℕ → Operation → Header
request_header version cluster client request operation = request_by name_of version cluster client request operation

-- e comes right after d; op 1 comes after the root of its cluster
pub record StandsOn (e d : Header) : Type 0 where
  pub op : e.op ≡ d.op + 1
  pub parent : e.parent ≡ header_name d
