pub mod FieldsBelow
