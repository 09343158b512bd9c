-- Restores that run beside later lines.
use Rattle.std.specs.Prelude.{ℕ, ◌+◌, List, Option, None}
use Rattle.std.specs.Option.{option_map_or}
use Rattle.vault_types.specs.declared.Answer.{Answer}
use Rattle.vault_types.specs.declared.Line.{Line}
use Rattle.vault_types.specs.declared.Line.TheVariants.{Restore}
use Rattle.store_model.specs.Causes.{store_number}

-- what has been of a restore that runs: the keeper from before its pin; its line, and the place of
-- that among the lines; how many payloads it has got; and the number of the store fault that it has
-- met, if it has
pub record Past (K : Type 0) : Type 0 where
  pub from : K
  pub set : ℕ
  pub version : ℕ
  pub name : List ℕ
  pub cache : ℕ
  pub got : ℕ
  pub met : Option ℕ
  pub place : ℕ

-- one that has just begun
abbrev pub just_begun : {K : Type 0} → K → ℕ → ℕ → List ℕ → ℕ → ℕ → Past K
just_begun k s v name cache place =
    record {
      from = k;
      set = s;
      version = v;
      name = name;
      cache = cache;
      got = 0;
      met = None;
      place = place;
    }

-- it has got so many payloads more, and has met this number
abbrev pub past_on : {K : Type 0} → Past K → ℕ → Option ℕ → Past K
past_on p n met =
    record {
      from = p.from;
      set = p.set;
      version = p.version;
      name = p.name;
      cache = p.cache;
      got = p.got + n;
      met = met;
      place = p.place;
    }

-- the same with the answer that it gives, without its place
pub record Running (K : Type 0) : Type 0 where
  pub from : K
  pub set : ℕ
  pub version : ℕ
  pub name : List ℕ
  pub cache : ℕ
  pub got : ℕ
  pub met : Option ℕ
  pub answer : Answer

abbrev pub with_answer : {K : Type 0} → Answer → Past K → Running K
with_answer answer p =
    record {
      from = p.from;
      set = p.set;
      version = p.version;
      name = p.name;
      cache = p.cache;
      got = p.got;
      met = p.met;
      answer = answer;
    }

abbrev pub line_of : {K : Type 0} → Running K → Line
line_of p = Restore p.set p.version p.name p.cache

-- the number of a store fault that its answer still brings: that of a fault which it has met was
-- counted then
abbrev pub owed : {K : Type 0} → Running K → Option ℕ
owed p = option_map_or (λ n. None) p.met (store_number p.answer)
