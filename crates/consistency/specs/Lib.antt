-- What one pass over the places of a record finds.
pub mod Pass
