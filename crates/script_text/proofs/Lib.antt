-- The script part by part.
pub mod ScriptParts
