-- Trees of statements and declarations.
use Rattle.std.specs.Prelude.{List, Option}
use Rattle.vale_syntax.specs.declared.spot.Spot.{Spot}
use Rattle.vale_syntax.specs.declared.expr.Name.{Name}
use Rattle.vale_syntax.specs.declared.statement.SortName.{SortName}
use Rattle.vale_syntax.specs.declared.declaration.AbiName.{AbiName}
use Rattle.vale_syntax.specs.declared.declaration.Bind.{Bind}
use Rattle.vale_syntax.specs.declared.declaration.Param.{Param}
use Rattle.vale_syntax.specs.declared.declaration.ReadPlace.{ReadPlace}
use Rattle.vale_syntax.specs.Trees.{Ex}

-- an argument of a statement
pub data Ar : Type 0 where
  Memory : Name → Ex → List Ex → Ar
  Value : Ex → Ar

mutual
  -- a statement of a procedure
  pub data St : Type 0 where
    CallStatement : Name → List Ar → St
    Assert : Spot → Ex → St
    Ghost : Spot → Name → SortName → Ex → St
    Assign : Name → Ex → St
    If : Spot → Ex → Sts → Arm → St
    While : Spot → Ex → List Ex → Ex → Sts → St
    InlineIf : Spot → Ex → Sts → Arm → St

  pub data Sts : Type 0 where
    no_sts : Sts
    more_sts : St → Sts → Sts

  -- the second arm, which may lack
  pub data Arm : Type 0 where
    no_arm : Arm
    arm : Sts → Arm

mutual
  -- a statement of a lemma
  pub data LSt : Type 0 where
    LCall : Name → List Ex → LSt
    LAssert : Spot → Ex → LSt
    LIf : Spot → Ex → LSts → LArm → LSt

  pub data LSts : Type 0 where
    no_lsts : LSts
    more_lsts : LSt → LSts → LSts

  pub data LArm : Type 0 where
    no_larm : LArm
    larm : LSts → LArm

-- a clause of a procedure
pub data Cl : Type 0 where
  Reads : Spot → List ReadPlace → Cl
  Modifies : Spot → List Name → Cl
  Requires : Spot → Ex → Cl
  Ensures : Spot → Ex → Cl
  Stack : Spot → Ex → Cl
  Abi : Spot → AbiName → Cl

-- a clause of a lemma
pub data LCl : Type 0 where
  LRequires : Spot → Ex → LCl
  LEnsures : Spot → Ex → LCl
  LDecreases : Spot → Ex → LCl

-- a declaration
pub data De : Type 0 where
  Procedure : Spot → Name → List Param → List Cl → Sts → De
  Lemma : Spot → Name → List Bind → List LCl → LSts → De
  Function : Spot → Name → List Bind → SortName → Option Ex → Ex → De
  Export : Spot → Name → Name → List Ex → De
