-- The table of quorums, row by row, and two digests of FIPS 180-4, cut.
use Rattle.std.specs.Prelude.{[], ◌∷◌, map, ◌≡◌, refl, None}
use Rattle.std.specs.Prelude.{codes}
use Rattle.sha2.specs.Sha256.{sha256, first_words, schedule, rounds, compress, hash_after, digest_bytes}
use Rattle.vr_base.specs.Bytes.{name_of}
use Rattle.vr_base.specs.Groups.{quorums_of, these}

the_table : map quorums_of (0 ∷ 1 ∷ 2 ∷ 3 ∷ 4 ∷ 5 ∷ 6 ∷ 7 ∷ [])
    ≡ None ∷ these 1 1 1 ∷ these 2 2 1 ∷ these 2 2 2 ∷ these 2 3 3 ∷ these 3 3 3 ∷ these 3 4 4 ∷ None ∷ []
the_table = refl

name_of_nothing : name_of [] ≡ 227 ∷ 176 ∷ 196 ∷ 66 ∷ 152 ∷ 252 ∷ 28 ∷ 20 ∷ 154 ∷ 251 ∷ 244 ∷ 200 ∷ 153 ∷ 111 ∷ 185 ∷ 36 ∷ []
unfolding name_of sha256 first_words schedule rounds compress hash_after digest_bytes
name_of_nothing = refl

name_of_abc : name_of (codes "abc") ≡ 186 ∷ 120 ∷ 22 ∷ 191 ∷ 143 ∷ 1 ∷ 207 ∷ 234 ∷ 65 ∷ 65 ∷ 64 ∷ 222 ∷ 93 ∷ 174 ∷ 34 ∷ 35 ∷ []
unfolding name_of sha256 first_words schedule rounds compress hash_after digest_bytes
name_of_abc = refl
